use Rattle.mysql_replies.specs.OkPacket.{state_bytes}
use Rattle.mysql_recorder.proofs.Changes.{ShowsChanges}
use Rattle.mysql_recorder.proofs.change_fields.append_changes.Given as goal

abbrev pub invariant-loop-change : goal.invariant-loop-change
invariant-loop-change l = ShowsChanges (state_bytes l.ok) l.change-iterator l.fn.fields.items l.fields.items
