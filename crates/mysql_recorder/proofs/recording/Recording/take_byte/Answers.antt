use Rattle.std.proofs.Common.{◌≡◌, ℕ, List, [], ◌∷◌, Some, refl, ap, subst, ◌∙◌, string_bytes}
use Rattle.mysql_conversation.specs.declared.packet_kind_tag.TheConstants.PacketKindTag.{ALL}
use Rattle.mysql_recorder.specs.Lines.{Heard, Stands, Passes, StaysOf}
use Rattle.mysql_recorder.specs.declared.line.Said.TheVariants as says
use Rattle.mysql_recorder.specs.declared.recording.Recording.{Recording}
use Rattle.mysql_recorder.proofs.Goes.{recorded_goes, ends_on_ok}
use Rattle.mysql_recorder.proofs.Losses.{feed_loses}
use Rattle.mysql_recorder.proofs.Stopped.{text_stops_at}
use Rattle.mysql_recorder.proofs.Texts.{recorded_byte, recorded_none}
use Rattle.mysql_recorder.proofs.recording.Recording.take_byte.Goals as goal

pub returns-in_ok-extend_from_slice-in-Some-Byte-clause-goes : goal.returns-in_ok-extend_from_slice-in-Some-Byte-clause-goes
returns-in_ok-extend_from_slice-in-Some-Byte-clause-goes c =
    let found : c.in_ok-side.field-0 ≡ Some (says.Byte c.in-Some-Byte.side c.in-Some-Byte.value) = c.in-Some-Byte.is ∙ ap Some c.in-Some-Byte.field-0-is in
    let new : Recording = record {
      alloc = c.args.self.now.alloc;
      place = c.pass.new.self;
      line = record { side = c.in-Some-Byte.side; bytes = c.extend_from_slice.new.self; is_untaken = c.args.self.now.line.is_untaken };
      sides = c.args.self.now.sides;
    } in
    recorded_goes (c.args.byte ∷ []) c.args.self.now new (string_bytes c.args.out.now) (λ text items h.
    recorded_byte c.args.self.now new text items c.args.byte c.in-Some-Byte.side c.in-Some-Byte.value h
    (subst (λ f. (line : List ℕ) (before : List Heard) → Stands c.args.self.now.place line before → Passes f c.args.byte line before c.pass.new.self) found c.in_ok-side.ensures.passes)
    (subst (λ f. StaysOf f c.args.self.now.place c.pass.new.self) found c.in_ok-side.ensures.side)
    refl c.in_ok-extend_from_slice-in-Some-Byte.ensures.items refl refl)

pub returns-in-Some-End-clause-goes : goal.returns-in-Some-End-clause-goes
returns-in-Some-End-clause-goes c =
    let found : c.in_ok-side.field-0 ≡ Some says.End = c.in-Some-End.is ∙ ap Some c.in-Some-End.field-0-is in
    ends_on_ok c.end_line.result c.args.self.now (record c.args.self.now { place = c.pass.new.self }) c.end_line.new.self c.args.byte
    (string_bytes c.args.out.now) (string_bytes c.end_line.new.out)
    (subst (λ f. (line : List ℕ) (before : List Heard) → Stands c.args.self.now.place line before → Passes f c.args.byte line before c.pass.new.self) found c.in_ok-side.ensures.passes)
    refl refl c.end_line.ensures.goes c.end_line.ensures.place c.end_line.ensures.line

pub returns-in-None-clause-goes : goal.returns-in-None-clause-goes
returns-in-None-clause-goes c =
    let new : Recording = record c.args.self.now { place = c.pass.new.self } in
    recorded_goes (c.args.byte ∷ []) c.args.self.now new (string_bytes c.args.out.now) (λ text items h.
    recorded_none c.args.self.now new text items c.args.byte h
    (subst (λ f. (line : List ℕ) (before : List Heard) → Stands c.args.self.now.place line before → Passes f c.args.byte line before c.pass.new.self) c.in-None.is c.in_ok-side.ensures.passes)
    (subst (λ f. StaysOf f c.args.self.now.place c.pass.new.self) c.in-None.is c.in_ok-side.ensures.side)
    refl refl)

pub returns-in-Some-End-clause-refused : goal.returns-in-Some-End-clause-refused
returns-in-Some-End-clause-refused c =
    text_stops_at c.end_line.result ALL c.args.self.now (record c.args.self.now { place = c.pass.new.self }) (string_bytes c.args.out.now) (string_bytes c.end_line.new.out) refl refl c.end_line.ensures.refused

pub returns-in-Some-End-clause-loses : goal.returns-in-Some-End-clause-loses
returns-in-Some-End-clause-loses c =
    let found : c.in_ok-side.field-0 ≡ Some says.End = c.in-Some-End.is ∙ ap Some c.in-Some-End.field-0-is in
    feed_loses ALL c.args.self.now (record c.args.self.now { place = c.pass.new.self }) c.end_line.new.self c.args.byte
    (string_bytes c.args.out.now) (string_bytes c.end_line.new.out)
    (subst (λ f. (line : List ℕ) (before : List Heard) → Stands c.args.self.now.place line before → Passes f c.args.byte line before c.pass.new.self) found c.in_ok-side.ensures.passes)
    refl refl c.end_line.ensures.loses
