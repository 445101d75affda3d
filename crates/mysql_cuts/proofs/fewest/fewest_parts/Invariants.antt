use Rattle.std.proofs.Common.{[]}
use Rattle.mysql_cuts.specs.Fewest.{weights, CapacityIs}
use Rattle.mysql_cuts.proofs.Names.{Counts}
use Rattle.mysql_cuts.proofs.fewest.fewest_parts.Given as goal

abbrev pub invariant-loop-size : goal.invariant-loop-size
invariant-loop-size l =
    let k = weights l.rule l.limit l.arity in
    record {
      later : CapacityIs k l.rule.types_always [] l.later;
      counts : Counts k l.sizes l.size-index l.closed l.rows l.capacity;
    }
