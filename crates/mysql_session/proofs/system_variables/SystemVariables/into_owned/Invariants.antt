use Rattle.std.proofs.Common.{◌≡◌, ◌++◌}
use Rattle.std.specs.Vec.Iter.{into_iter_items}
use Rattle.mysql_session.proofs.system_variables.SystemVariables.into_owned.Given as goal

abbrev pub invariant-loop-variable : goal.invariant-loop-variable
invariant-loop-variable l = l.owned.items ++ into_iter_items l.variable-iterator ≡ into_iter_items l.initial.variable-iterator
