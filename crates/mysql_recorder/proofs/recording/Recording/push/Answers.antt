use Rattle.std.proofs.Common.{◌≡◌, Some, None, ap, IfErr, get_or, take, refl, sym, subst, ◌∙◌, string_bytes}
use Rattle.mysql_conversation.specs.declared.packet_kind_tag.TheConstants.PacketKindTag.{ALL}
use Rattle.std.proofs.lemmas.List.{take_all}
use Rattle.std.proofs.lemmas.Result.{IfErr-weaker, err_from_is_err_and, on_ok_weaker}
use Rattle.mysql_recorder.specs.Stops.{Stops}
use Rattle.mysql_recorder.proofs.Goes.{loop_starts, loop_goes, loop_ends}
use Rattle.mysql_recorder.specs.Lines.{next_place, place_after}
use Rattle.mysql_recorder.specs.Refusals.{IfLine}
use Rattle.mysql_recorder.proofs.Lines.{if_line, on_ok_of, place_more, place_stops}
use Rattle.mysql_recorder.proofs.Losses.{byte_loses, loop_loses, loses_none, rest_loses}
use Rattle.mysql_recorder.proofs.Stays.{stays_same, stays_then}
use Rattle.mysql_recorder.proofs.Stopped.{stops_after}
use Rattle.mysql_recorder.proofs.recording.Recording.push.Goals as goal

pub loop-byte-init : goal.loop-byte-init
loop-byte-init c = record { goes = loop_starts c.args.input.now c.args.self.now (string_bytes c.args.out.now); lost = λ e. e; settings = refl; loses = loses_none ALL (take 0 c.args.input.now) c.args.self.now c.args.self.now (string_bytes c.args.out.now) (string_bytes c.args.out.now) refl; place = refl; text = stays_same (string_bytes c.args.out.now) }

pub loop-byte-preserved : goal.loop-byte-preserved
loop-byte-preserved c = record {
  goes = loop_goes c.args.input.now c.loop-byte.byte-index (get_or c.args.input.now c.loop-byte.byte-index 0) c.args.self.now c.loop-byte.self c.take_byte.new.self
      (string_bytes c.args.out.now) (string_bytes c.loop-byte.out) (string_bytes c.take_byte.new.out)
      c.loop-byte-test.true refl c.loop-byte.invariant.goes c.in_ok-take_byte.ensures.lost (ap (λ s. s.layout) c.loop-byte.invariant.settings) c.in_ok-take_byte.ensures.goes;
  lost = λ e. c.in_ok-take_byte.ensures.lost (c.loop-byte.invariant.lost e);
  settings = c.in_ok-take_byte.ensures.settings ∙ c.loop-byte.invariant.settings;
  loses = loop_loses ALL c.args.input.now c.loop-byte.byte-index (get_or c.args.input.now c.loop-byte.byte-index 0) c.args.self.now c.loop-byte.self c.take_byte.new.self
      (string_bytes c.args.out.now) (string_bytes c.loop-byte.out) (string_bytes c.take_byte.new.out)
      c.loop-byte-test.true refl c.loop-byte.invariant.goes c.loop-byte.invariant.loses (ap (λ s. s.layout) c.loop-byte.invariant.settings) (ap (λ s. s.longest) c.loop-byte.invariant.settings) c.in_ok-take_byte.ensures.loses c.in_ok-take_byte.ensures.text;
  place = place_more (Some c.args.self.now.place) c.args.input.now c.loop-byte.byte-index c.loop-byte.self.place c.take_byte.new.self.place c.loop-byte-test.true c.loop-byte.invariant.place c.in_ok-take_byte.ensures.place;
  text = stays_then (string_bytes c.args.out.now) (string_bytes c.loop-byte.out) (string_bytes c.take_byte.new.out) c.loop-byte.invariant.text c.in_ok-take_byte.ensures.text;
}

pub returns-clause-goes : goal.returns-clause-goes
returns-clause-goes c =
    on_ok_weaker c.take_rest.result
    (loop_ends c.args.input.now c.loop-byte.byte-index c.args.self.now c.loop-byte.self c.take_rest.new.self
    (string_bytes c.args.out.now) (string_bytes c.loop-byte.out) (string_bytes c.take_rest.new.out)
    (take_all c.loop-byte.byte-index c.args.input.now c.loop-byte-test.false)
    c.loop-byte.invariant.goes c.take_rest.ensures.keeps.lost (ap (λ s. s.layout) c.loop-byte.invariant.settings)) c.take_rest.ensures.goes

pub returns-clause-refused : goal.returns-clause-refused
returns-clause-refused c =
    IfErr-weaker c.take_rest.result _ _
    (λ e. stops_after ALL c.args.input.now c.loop-byte.byte-index c.args.self.now c.loop-byte.self c.take_rest.new.self
    (string_bytes c.args.out.now) (string_bytes c.loop-byte.out) (string_bytes c.take_rest.new.out) e
    c.loop-byte.invariant.goes c.take_rest.ensures.keeps.lost (ap (λ s. s.layout) c.loop-byte.invariant.settings)) c.take_rest.ensures.refused

pub returns-in_err-take_byte-clause-refused : goal.returns-in_err-take_byte-clause-refused
returns-in_err-take_byte-clause-refused c =
    let p = err_from_is_err_and c.from_residual.result c.from_residual.ensures.1 in
    let same : c.in_err-take_byte.field-0.0 ≡ p.0 = cc p.2 in
    subst (λ r. IfErr r (λ e. Stops ALL c.args.input.now c.args.self.now c.take_byte.new.self e (string_bytes c.args.out.now) (string_bytes c.take_byte.new.out))) (sym p.1)
    (subst (λ e. Stops ALL c.args.input.now c.args.self.now c.take_byte.new.self e (string_bytes c.args.out.now) (string_bytes c.take_byte.new.out)) same
    (stops_after ALL c.args.input.now c.loop-byte.byte-index c.args.self.now c.loop-byte.self c.take_byte.new.self
    (string_bytes c.args.out.now) (string_bytes c.loop-byte.out) (string_bytes c.take_byte.new.out) c.in_err-take_byte.field-0.0
    c.loop-byte.invariant.goes c.in_err-take_byte.ensures.lost (ap (λ s. s.layout) c.loop-byte.invariant.settings) c.in_err-take_byte.ensures.refused))

pub returns-clause-loses : goal.returns-clause-loses
returns-clause-loses c =
    rest_loses ALL c.args.input.now c.loop-byte.byte-index c.args.self.now c.loop-byte.self c.take_rest.new.self
    (string_bytes c.args.out.now) (string_bytes c.loop-byte.out) (string_bytes c.take_rest.new.out)
    (take_all c.loop-byte.byte-index c.args.input.now c.loop-byte-test.false)
    c.loop-byte.invariant.goes c.loop-byte.invariant.loses (ap (λ s. s.layout) c.loop-byte.invariant.settings) (ap (λ s. s.longest) c.loop-byte.invariant.settings) c.take_rest.ensures.loses c.take_rest.ensures.keeps.text

pub returns-clause-text : goal.returns-clause-text
returns-clause-text c =
    stays_then (string_bytes c.args.out.now) (string_bytes c.loop-byte.out) (string_bytes c.take_rest.new.out) c.loop-byte.invariant.text c.take_rest.ensures.keeps.text

pub returns-in_err-take_byte-clause-loses : goal.returns-in_err-take_byte-clause-loses
returns-in_err-take_byte-clause-loses c =
    byte_loses ALL c.args.input.now c.loop-byte.byte-index (get_or c.args.input.now c.loop-byte.byte-index 0) c.args.self.now c.loop-byte.self c.take_byte.new.self
    (string_bytes c.args.out.now) (string_bytes c.loop-byte.out) (string_bytes c.take_byte.new.out)
    c.loop-byte-test.true refl c.loop-byte.invariant.goes c.loop-byte.invariant.loses (ap (λ s. s.layout) c.loop-byte.invariant.settings) (ap (λ s. s.longest) c.loop-byte.invariant.settings) c.take_byte.ensures.loses c.take_byte.ensures.text

pub returns-clause-place : goal.returns-clause-place
returns-clause-place c =
    let whole : take c.loop-byte.byte-index c.args.input.now ≡ c.args.input.now = take_all c.loop-byte.byte-index c.args.input.now c.loop-byte-test.false in
    on_ok_of c.take_rest.result (place_after c.args.self.now.place c.args.input.now ≡ Some c.take_rest.new.self.place)
    (subst (λ t. place_after c.args.self.now.place t ≡ Some c.take_rest.new.self.place) whole (c.loop-byte.invariant.place ∙ ap (λ p. Some p) (sym c.take_rest.ensures.place)))

pub returns-in_err-take_byte-clause-line : goal.returns-in_err-take_byte-clause-line
returns-in_err-take_byte-clause-line c =
    let p = err_from_is_err_and c.from_residual.result c.from_residual.ensures.1 in
    let same : c.in_err-take_byte.field-0.0 ≡ p.0 = cc p.2 in
    subst (λ r. IfErr r (λ e. IfLine e (place_after c.args.self.now.place c.args.input.now ≡ None))) (sym p.1)
    (subst (λ e. IfLine e (place_after c.args.self.now.place c.args.input.now ≡ None)) same
    (if_line c.in_err-take_byte.field-0.0 (next_place c.loop-byte.self.place (get_or c.args.input.now c.loop-byte.byte-index 0) ≡ None) (place_after c.args.self.now.place c.args.input.now ≡ None)
    (λ e. place_stops (Some c.args.self.now.place) c.args.input.now c.loop-byte.byte-index c.loop-byte.self.place c.loop-byte-test.true c.loop-byte.invariant.place e) c.in_err-take_byte.ensures.line))
