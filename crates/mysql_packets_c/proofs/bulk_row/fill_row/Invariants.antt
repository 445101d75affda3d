use Rattle.mysql_packets_c.proofs.ReadBulkRows.{RowSoFar}
use Rattle.mysql_packets_c.proofs.bulk_row.fill_row.Given as goal

abbrev pub invariant-loop-place : goal.invariant-loop-place
invariant-loop-place l = RowSoFar l.types l.fn.buf l.buf l.fn.values l.values l.fn.indicators l.indicators l.place
