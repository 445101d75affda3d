use Rattle.std.proofs.Common.{◌≡◌, ◌++◌}
use Rattle.mysql_session.proofs.system_variables_ref.SystemVariablesRef.to_owned.Given as goal

abbrev pub invariant-loop-variable : goal.invariant-loop-variable
invariant-loop-variable l = l.variables.items ++ l.variable-iterator ≡ l.initial.variable-iterator
