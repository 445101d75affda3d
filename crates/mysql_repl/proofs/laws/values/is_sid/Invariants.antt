use Rattle.std.proofs.Common.{ℕ, ◌<◌, get_or}
use Rattle.mysql_repl.specs.declared.gno_interval.GnoInterval.{GnoInterval}
use Rattle.mysql_repl.proofs.Ranges.{IsInRange}
use Rattle.mysql_repl.proofs.laws.values.is_sid.Given as goal

abbrev pub invariant-loop-interval : goal.invariant-loop-interval
invariant-loop-interval l = (k : ℕ) (d : GnoInterval) → k < l.interval-index → IsInRange (get_or l.interval-items k d)
