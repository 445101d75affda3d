use Rattle.mysql_packets_c.proofs.FilledRows.{SoFar}
use Rattle.mysql_packets_c.proofs.rows.fill_text.Given as goal

abbrev pub invariant-loop-value : goal.invariant-loop-value
invariant-loop-value l = SoFar l.fn.row l.row l.fn.values l.values l.place

abbrev pub decreases-loop-value : goal.decreases-loop-value
decreases-loop-value l = l.row.left
