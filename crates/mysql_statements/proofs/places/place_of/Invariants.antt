use Rattle.std.proofs.Common.{◌≡◌, drop}
use Rattle.mysql_statements.specs.Table.{place_of}
use Rattle.mysql_statements.proofs.Numbers.{further}
use Rattle.mysql_statements.proofs.places.place_of.Given as goal

abbrev pub invariant-loop-place : goal.invariant-loop-place
invariant-loop-place l = place_of l.id l.statements ≡ further l.place (place_of l.id (drop l.place l.statements))
