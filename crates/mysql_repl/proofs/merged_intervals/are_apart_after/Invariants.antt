use Rattle.std.proofs.Common.{◌≡◌, drop}
use Rattle.mysql_repl.specs.MergedIntervals.{are_apart_after}
use Rattle.mysql_repl.proofs.merged_intervals.are_apart_after.Given as goal

abbrev pub invariant-loop-interval : goal.invariant-loop-interval
invariant-loop-interval l = are_apart_after l.last (drop l.interval-index l.intervals) ≡ are_apart_after l.first l.intervals
