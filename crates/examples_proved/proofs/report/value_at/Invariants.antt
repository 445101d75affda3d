use Rattle.std.proofs.Common.{◌≡◌, drop}
use Rattle.examples_proved.proofs.report.value_at.Given as goal

abbrev pub invariant-loop : goal.invariant-loop
invariant-loop l = l.row.values ≡ drop l.counter l.fn.row.values
