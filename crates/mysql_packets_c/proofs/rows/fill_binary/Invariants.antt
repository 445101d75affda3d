use Rattle.mysql_packets_c.proofs.FilledRows.{SoFar}
use Rattle.mysql_packets_c.proofs.rows.fill_binary.Given as goal

abbrev pub invariant-loop-row : goal.invariant-loop-row
invariant-loop-row l = SoFar l.fn.row l.row l.fn.values l.values l.place

abbrev pub decreases-loop-row : goal.decreases-loop-row
decreases-loop-row l = l.row.left
