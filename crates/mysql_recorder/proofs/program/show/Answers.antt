use Rattle.std.proofs.Common.{refl, rules}
use Rattle.std.proofs.KnownBytes.{Keeps-refl}
use Rattle.mysql_conversation.specs.declared.packet_kind_tag.TheConstants.PacketKindTag.{ALL}
use Rattle.mysql_recorder.proofs.Fed.{end_answered, fed_more, fed_none, no_more_read, piece_answered}
use Rattle.mysql_recorder.proofs.program.show.Goals as goal

pub loop-init : goal.loop-init
loop-init g c = fed_none ALL c.args.shown_in _ c.args.recording.now _ _ c.requires refl

pub loop-preserved : goal.loop-preserved
loop-preserved g c = fed_more ALL c.args.shown_in _ _ c.loop.recording c.take-ended.new.recording _ _ _ _ _ _ _ c.loop.invariant c.in-Ok.ensures.bytes.0 (c.in_default-ended.ensures.goes refl)

pub returns-in_default : goal.returns-in_default
returns-in_default g c = record { answer = no_more_read ALL c.args.shown_in _ c.args.sums _ c.loop.recording _ _ _ _ _ c.loop.invariant c.in_default.ensures.bytes }

pub returns-then-count-eq0 : goal.returns-then-count-eq0
returns-then-count-eq0 g c =
    let bytes = c.in-Ok.ensures.bytes in
    record {
      answer = end_answered ALL c.args.shown_in _ c.args.sums _ c.loop.recording c.finish.new.recording _ c.in-Ok.count _ _ _ _ _ _ _
          c.loop.invariant bytes.0 c.if-count-eq0.true (bytes.1 c.if-count-eq0.true (search rules)) c.finish.ensures;
    }

pub returns-in-Some : goal.returns-in-Some
returns-in-Some g c = record { answer = piece_answered ALL c.args.shown_in _ c.args.sums _ c.loop.recording c.take-ended.new.recording _ _ _ _ _ _ _ _ c.loop.invariant c.in-Ok.ensures.bytes.0 c.in-Some.ensures.ends }

pub returns : goal.returns
returns g c = record { answer = no_more_read ALL c.args.shown_in _ c.args.sums _ c.loop.recording _ _ _ _ _ c.loop.invariant (Keeps-refl _) }
