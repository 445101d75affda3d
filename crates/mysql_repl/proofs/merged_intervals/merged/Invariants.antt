use Rattle.std.proofs.Common.{◌≡◌, ◌++◌, drop}
use Rattle.mysql_repl.specs.MergedIntervals.{merged_from}
use Rattle.mysql_repl.proofs.merged_intervals.merged.Given as goal

abbrev pub invariant-loop-interval : goal.invariant-loop-interval
invariant-loop-interval l = l.merged.items ++ merged_from l.last (drop l.interval-index l.more) ≡ merged_from l.initial.last l.more
