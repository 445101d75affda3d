use Rattle.std.proofs.Common.{◌≡◌, ◌++◌, map, take, drop}
use Rattle.mysql_statements.specs.Statement.{without_data}
use Rattle.mysql_statements.proofs.statement.drop_data.Given as goal

abbrev pub invariant-loop-place : goal.invariant-loop-place
invariant-loop-place l = l.params ≡ map without_data (take l.place l.initial.params) ++ drop l.place l.initial.params
