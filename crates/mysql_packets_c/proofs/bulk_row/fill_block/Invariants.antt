use Rattle.mysql_packets_c.proofs.ReadBulkRows.{TypesSoFar}
use Rattle.mysql_packets_c.proofs.bulk_row.fill_block.Given as goal

abbrev pub invariant-loop-place : goal.invariant-loop-place
invariant-loop-place l = TypesSoFar l.fn.block l.block l.fn.types l.types l.place
