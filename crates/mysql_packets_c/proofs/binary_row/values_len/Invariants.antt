use Rattle.mysql_packets_c.proofs.BinaryRows.{SoFar}
use Rattle.mysql_packets_c.proofs.binary_row.values_len.Given as goal

abbrev pub invariant-loop-place : goal.invariant-loop-place
invariant-loop-place l = SoFar l.columns l.values l.place l.len l.has_empty
