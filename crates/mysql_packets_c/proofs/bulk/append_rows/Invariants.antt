use Rattle.mysql_packets_c.specs.Bulk.{rows_from}
use Rattle.mysql_packets_c.proofs.Appends.{IsLeft}
use Rattle.mysql_packets_c.proofs.bulk.append_rows.Given as goal

abbrev pub invariant-loop-place : goal.invariant-loop-place
invariant-loop-place g l = IsLeft g.O.Buffer.held g.O.Buffer.after g.O.Buffer.capacity g.O.Buffer.kept (rows_from l.columns l.count 0 l.values) (rows_from l.columns l.count l.place l.values) l.fn.out l.out
