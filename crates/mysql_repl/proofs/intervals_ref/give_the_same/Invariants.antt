use Rattle.std.proofs.Common.{◌≡◌}
use Rattle.std.specs.Cmp.Lexicographic.{pointwise}
use Rattle.mysql_repl.specs.contracts.gno_interval.GnoIntervalPartialEq.TheImpl as equality
use Rattle.mysql_repl.proofs.intervals_ref.give_the_same.Given as goal

abbrev pub invariant-loop-interval : goal.invariant-loop-interval
invariant-loop-interval l = pointwise equality.ghosts.eq l.interval-iterator l.others ≡ pointwise equality.ghosts.eq l.initial.interval-iterator l.initial.others
