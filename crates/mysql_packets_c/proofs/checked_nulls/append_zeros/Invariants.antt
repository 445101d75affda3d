use Rattle.std.proofs.Common.{replicate}
use Rattle.mysql_packets_c.specs.Appends.{Appends}
use Rattle.mysql_packets_c.proofs.checked_nulls.append_zeros.Given as goal

abbrev pub invariant-loop : goal.invariant-loop
invariant-loop g l = Appends g.O.Buffer.held g.O.Buffer.after g.O.Buffer.capacity g.O.Buffer.kept (replicate l.counter 0) l.fn.out l.out
