use Rattle.std.proofs.Common.{◌≡◌, ◌++◌}
use Rattle.mysql_recorder.specs.ChangeFields.{variable_fields}
use Rattle.mysql_recorder.proofs.change_fields.append_variables.Given as goal

abbrev pub invariant-loop-variable : goal.invariant-loop-variable
invariant-loop-variable l = l.fields.items ++ variable_fields l.variable-iterator ≡ l.fn.fields.items ++ variable_fields l.fn.variables
