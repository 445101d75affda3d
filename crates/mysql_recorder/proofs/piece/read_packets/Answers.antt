use Rattle.std.proofs.Common.{◌≡◌, ◌+◌, ◌<◌, List, Ok, Err, length, sym, ap, subst, ◌∙◌, string_bytes, arith, rules}
use Rattle.std.proofs.lemmas.Result.{IfErr-at_err}
use Rattle.std.specs.Cow.{cow_slice_items}
use Rattle.mysql_conversation.specs.Pipelined.{Numbered}
use Rattle.mysql_conversation.specs.declared.packet_kind_tag.TheConstants.PacketKindTag.{ALL}
use Rattle.mysql_conversation.specs.declared.pipeline.SessionError.{SessionError}
use Rattle.mysql_observer.specs.Observed.{Observed}
use Rattle.mysql_recorder.specs.Frames.{IsNumbered}
use Rattle.mysql_recorder.specs.Refused.{ShowsRefused}
use Rattle.mysql_recorder.specs.Refusals.{IfRefused}
use Rattle.mysql_recorder.specs.Shown.{Item}
use Rattle.mysql_recorder.specs.Sides.{Reads}
use Rattle.mysql_recorder.specs.Taken.{ShowsPacket}
use Rattle.mysql_recorder.specs.declared.packets.Taken.TheVariants as taken_as
use Rattle.mysql_recorder.proofs.Frames.{packets_less, handed_numbered}
use Rattle.mysql_recorder.proofs.Losses.{loses_frames, loses_packet}
use Rattle.mysql_recorder.proofs.Pieces.{reads_packet, reads_all, holds_none}
use Rattle.mysql_recorder.proofs.Stays.{stays_then}
use Rattle.mysql_recorder.proofs.Stopped.{at_refused, at_shown, reads_refused}
use Rattle.mysql_recorder.proofs.piece.read_packets.Goals as goal

pub packets-smaller : goal.packets-smaller
packets-smaller c =
    subst (λ s. length s.reader.held + length c.next.new.input.now < length c.packets.stream.reader.held + length c.packets.input.now) (sym c.recycle.ensures)
    (packets_less c.packets.stream.reader c.next.new.self.reader c.packets.input.now (cow_slice_items c.in-Ok-Some.sent.payload) c.next.new.input.now (rw c.in-Ok-Some.field-0-is at c.in-Ok-Some.ensures.payload))

shows : (c : goal.In-Ok-Shown) (xs : List Numbered) → Observed c.packets.packets.observer xs
    → ShowsPacket c.packets.packets.layout c.args.side c.in-Ok-Some.sent.sequence c.as_slice.result.now xs c.take-taken.new.self.observer (string_bytes c.packets.out) (string_bytes c.take-taken.new.out)
shows c =
    let P : Type 0 = (xs : List Numbered) → Observed c.packets.packets.observer xs
    → ShowsPacket c.packets.packets.layout c.args.side c.in-Ok-Some.sent.sequence c.as_slice.result.now xs c.take-taken.new.self.observer (string_bytes c.packets.out) (string_bytes c.take-taken.new.out) in
    let shown : c.take-taken.result ≡ Ok taken_as.Shown = first_of (cc (c.in-Ok-Shown.is, c.in-Ok-Shown.field-0-is), search rules, grind (rules, c.in-Ok-Shown.is, c.in-Ok-Shown.field-0-is)) in
    at_shown {P = P} c.take-taken.result shown c.take-taken.ensures.shown

pub packets-preserved : goal.packets-preserved
packets-preserved c = record {
  passed = ap (λ s. s.passed) c.recycle.ensures ∙ c.in-Ok-Some.ensures.passed ∙ c.packets.invariant.passed;
  options = c.take-taken.ensures.options ∙ c.packets.invariant.options;
  stays = stays_then (string_bytes c.args.out.now) (string_bytes c.packets.out) (string_bytes c.take-taken.new.out) c.packets.invariant.stays c.take-taken.ensures.stays;
  numbered = λ n. subst (λ s. IsNumbered s.reader) (sym c.recycle.ensures)
      (handed_numbered c.packets.stream.reader c.next.new.self.reader c.packets.input.now (cow_slice_items c.in-Ok-Some.sent.payload) c.next.new.input.now (rw c.in-Ok-Some.field-0-is at c.in-Ok-Some.ensures.payload));
  reads = λ items h.
      let r = c.packets.invariant.reads items h in
      subst (λ s. (x : List Item) × Reads c.args.side c.args.piece.now c.next.new.input.now items x c.args.stream.now s c.args.packets.now c.take-taken.new.self (string_bytes c.args.out.now) (string_bytes c.take-taken.new.out))
      (sym c.recycle.ensures)
      (reads_packet c.args.side c.args.piece.now c.packets.input.now c.next.new.input.now items r.0 c.args.stream.now c.packets.stream c.next.new.self c.args.packets.now c.packets.packets c.take-taken.new.self
      (string_bytes c.args.out.now) (string_bytes c.packets.out) (string_bytes c.take-taken.new.out) c.in-Ok-Some.sent.sequence c.as_slice.result.now r.1
      (rw c.as_slice.ensures.value (rw c.in-Ok-Some.field-0-is at c.in-Ok-Some.ensures.payload))
      (rw c.in-Ok-Some.field-0-is at c.in-Ok-Some.ensures.sequence)
      (ap (λ o. o.layout) c.packets.invariant.options) (shows c));
}

pub returns-in-Err-taken-clause-refused : goal.returns-in-Err-taken-clause-refused
returns-in-Err-taken-clause-refused c = λ items h.
    let r = c.packets.invariant.reads items h in
    reads_refused ALL c.args.side c.args.piece.now c.packets.input.now c.next.new.input.now items r.0 c.args.stream.now c.packets.stream c.next.new.self c.args.packets.now c.packets.packets
    (string_bytes c.args.out.now) (string_bytes c.packets.out) (string_bytes c.take-taken.new.out) c.in-Ok-Some.sent.sequence c.as_slice.result.now c.in-Err-taken.error r.1
    (rw c.as_slice.ensures.value (rw c.in-Ok-Some.field-0-is at c.in-Ok-Some.ensures.payload))
    (rw c.in-Ok-Some.field-0-is at c.in-Ok-Some.ensures.sequence)
    (ap (λ o. o.layout) c.packets.invariant.options)
    (IfErr-at_err (λ e. (xs : List Numbered) → Observed c.packets.packets.observer xs
    → IfRefused e (λ why. ShowsRefused ALL c.packets.packets.layout c.args.side c.in-Ok-Some.sent.sequence c.as_slice.result.now xs why (string_bytes c.packets.out) (string_bytes c.take-taken.new.out)))
    c.in-Err-taken.is c.take-taken.ensures.refused)

pub returns-in-Ok-None-clause-whole : goal.returns-in-Ok-None-clause-whole
returns-in-Ok-None-clause-whole c = λ e items h.
    let r = c.packets.invariant.reads items h in (
      r.0,
      reads_all c.args.side c.args.piece.now c.packets.input.now c.next.new.input.now items r.0 c.args.stream.now c.packets.stream c.next.new.self c.args.packets.now c.packets.packets
          (string_bytes c.args.out.now) (string_bytes c.packets.out) r.1 (rw c.in-Ok-None.field-0-is at c.in-Ok-None.ensures.more),
    )

pub returns-in-Ok-None-clause-none : goal.returns-in-Ok-None-clause-none
returns-in-Ok-None-clause-none c = λ e n.
    holds_none c.packets.stream.reader c.next.new.self.reader c.packets.input.now c.next.new.input.now (c.packets.invariant.numbered n) (rw c.in-Ok-None.field-0-is at c.in-Ok-None.ensures.more)

pub returns-in-Ok-Refused-clause-loses : goal.returns-in-Ok-Refused-clause-loses
returns-in-Ok-Refused-clause-loses c = λ e items h.
    let r = c.packets.invariant.reads items h in
    let P : Type 0 = (xs : List Numbered) → Observed c.packets.packets.observer xs
    → (why : SessionError) × ShowsRefused ALL c.packets.packets.layout c.args.side c.in-Ok-Some.sent.sequence c.as_slice.result.now xs why (string_bytes c.packets.out) (string_bytes c.take-taken.new.out) in
    let refused : c.take-taken.result ≡ Ok (taken_as.Refused c.in-Ok-Refused.agreed) = first_of (cc (c.in-Ok-Refused.is, c.in-Ok-Refused.field-0-is), search rules, grind (rules, c.in-Ok-Refused.is, c.in-Ok-Refused.field-0-is)) in
    loses_packet ALL c.args.side c.args.piece.now c.packets.input.now c.next.new.input.now items r.0 c.args.stream.now c.packets.stream c.next.new.self c.args.packets.now c.packets.packets
    (string_bytes c.args.out.now) (string_bytes c.packets.out) (string_bytes c.take-taken.new.out) c.in-Ok-Some.sent.sequence c.as_slice.result.now r.1
    (rw c.as_slice.ensures.value (rw c.in-Ok-Some.field-0-is at c.in-Ok-Some.ensures.payload))
    (rw c.in-Ok-Some.field-0-is at c.in-Ok-Some.ensures.sequence)
    (ap (λ o. o.layout) c.packets.invariant.options)
    (at_refused {P = P} c.take-taken.result c.in-Ok-Refused.agreed refused c.take-taken.ensures.lost)

pub returns-in-Err-clause-loses : goal.returns-in-Err-clause-loses
returns-in-Err-clause-loses c = λ e items h.
    let r = c.packets.invariant.reads items h in
    loses_frames ALL c.args.side c.args.piece.now c.packets.input.now items r.0 c.args.stream.now c.packets.stream c.args.packets.now c.packets.packets
    (string_bytes c.args.out.now) (string_bytes c.packets.out) r.1 c.in-Err.error (λ m. let no : ⊥ = first_of (cc, search rules, grind rules, grind arith) in no)
    (λ e. c.in-Err.ensures.order (ap Err e)) (λ e. c.in-Err.ensures.long (ap Err e))
