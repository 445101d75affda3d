use Rattle.std.proofs.Common.{◌≡◌, ◌+◌, drop}
use Rattle.mysql_statements.specs.Table.{held}
use Rattle.mysql_statements.proofs.places.left_of.Given as goal

abbrev pub invariant-loop-statement : goal.invariant-loop-statement
invariant-loop-statement l = l.left + held l.statements ≡ l.limit + held (drop l.statement-index l.statements)
