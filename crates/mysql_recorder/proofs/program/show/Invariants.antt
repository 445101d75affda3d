use Rattle.std.proofs.Common.{[]}
use Rattle.mysql_conversation.specs.declared.packet_kind_tag.TheConstants.PacketKindTag.{ALL}
use Rattle.mysql_recorder.specs.Recorded.{Recorded, longest}
use Rattle.mysql_recorder.proofs.Fed.{IsFed}
use Rattle.mysql_recorder.proofs.program.show.Given as goal

-- the reader returned an input, and its answer is written
abbrev pub invariant-loop : goal.invariant-loop
invariant-loop g l =
    IsFed ALL l.shown_in (longest l.fn.recording) (Recorded l.fn.recording [] []) l.recording
    (g.R.Read.remaining l.fn.reader) (g.R.Read.remaining l.reader) (g.W.Write.contents l.fn.writer) (g.W.Write.contents l.writer)
