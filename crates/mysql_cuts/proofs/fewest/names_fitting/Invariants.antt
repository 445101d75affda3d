use Rattle.std.proofs.Common.{◌≤◌, ◌↔◌, length, drop}
use Rattle.mysql_cuts.specs.Fewest.{weights, NamesFitting}
use Rattle.mysql_cuts.proofs.Names.{Names}
use Rattle.mysql_cuts.proofs.fewest.names_fitting.Given as goal

abbrev pub invariant-loop-end : goal.invariant-loop-end
invariant-loop-end l =
    let k = weights l.rule l.limit l.arity in
    record {
      within : l.start ≤ length l.sizes;
      rest : NamesFitting k l.sizes l.ends ↔ Names k l.types l.start (drop l.start l.sizes) (drop l.end-index l.ends);
    }
