use Rattle.mysql_recorder.specs.RecordFields.{BeginsWith}
use Rattle.mysql_recorder.proofs.partial_column.append_partial_column.Given as goal

abbrev pub invariant-loop-name : goal.invariant-loop-name
invariant-loop-name l = BeginsWith l.fn.fields.items l.fields.items
