use Rattle.std.proofs.Common.{length}
use Rattle.mysql_packets_c.proofs.Appends.{IsLeft}
use Rattle.mysql_packets_c.proofs.WrittenRows.{cells_bytes}
use Rattle.mysql_packets_c.proofs.text_row.append_cells.Given as goal

abbrev pub invariant-loop-value : goal.invariant-loop-value
invariant-loop-value g l = IsLeft g.O.Buffer.held g.O.Buffer.after g.O.Buffer.capacity g.O.Buffer.kept (cells_bytes l.values) (cells_bytes l.left.items.now) l.fn.out l.bytes

abbrev pub decreases-loop-value : goal.decreases-loop-value
decreases-loop-value g l = length l.left.items.now
