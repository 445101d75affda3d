use Rattle.std.proofs.Common.{◌≡◌, ◌++◌}
use Rattle.mysql_repl.proofs.intervals_ref.IntervalsRef.to_owned.Given as goal

abbrev pub invariant-loop-interval : goal.invariant-loop-interval
invariant-loop-interval l = l.intervals.items ++ l.interval-iterator ≡ l.initial.interval-iterator
