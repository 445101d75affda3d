use Rattle.std.proofs.Common.{◌≡◌, take, filter}
use Rattle.mysql_repl.specs.MergedIntervals.{has_any}
use Rattle.mysql_repl.proofs.merged_intervals.some_of.Given as goal

abbrev pub invariant-loop-interval : goal.invariant-loop-interval
invariant-loop-interval l = l.some.items ≡ filter has_any (take l.interval-index l.intervals)
