use Rattle.std.proofs.Common.{◌≡◌, ◌-◌}
use Rattle.mysql_repl.specs.GnoInterval.{interval}
use Rattle.mysql_wire.proofs.Passed.{left_to_pass}
use Rattle.mysql_repl.proofs.intervals_ref.skip_intervals.Given as goal

abbrev pub invariant-loop : goal.invariant-loop
invariant-loop l = record { read : left_to_pass (interval.form tt) (l.count - l.counter) l.buf ≡ left_to_pass (interval.form tt) l.count l.initial.buf }
