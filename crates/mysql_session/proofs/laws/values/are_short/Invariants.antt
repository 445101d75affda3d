use Rattle.std.proofs.Common.{ℕ, ◌<◌, [], get_or}
use Rattle.mysql_session.specs.SystemVariable.{SystemVariableFits, variable_of}
use Rattle.mysql_session.proofs.laws.values.are_short.Given as goal

abbrev pub invariant-loop-variable : goal.invariant-loop-variable
invariant-loop-variable l = (k : ℕ) → k < l.variable-index → SystemVariableFits (get_or l.variables k (variable_of [] []))
