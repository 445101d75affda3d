use Rattle.std.proofs.Common.{drop}
use Rattle.mysql_packets_c.specs.Bulk.{row_bytes}
use Rattle.mysql_packets_c.proofs.Appends.{IsLeft}
use Rattle.mysql_packets_c.proofs.bulk_cell.append_row.Given as goal

abbrev pub invariant-loop-place : goal.invariant-loop-place
invariant-loop-place g l = IsLeft g.O.Buffer.held g.O.Buffer.after g.O.Buffer.capacity g.O.Buffer.kept (row_bytes l.columns l.row) (row_bytes (drop l.place l.columns) (drop l.place l.row)) l.fn.out l.bytes
