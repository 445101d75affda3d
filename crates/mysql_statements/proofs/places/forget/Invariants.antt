use Rattle.std.proofs.Common.{◌≡◌, ◌<◌, ◌⊎◌, vec_len, vec_capacity}
use Rattle.mysql_statements.specs.Table.{without}
use Rattle.mysql_statements.proofs.places.forget.Given as goal

abbrev pub invariant-loop-place : goal.invariant-loop-place
invariant-loop-place l = (without l.id l.statements.items ≡ without l.id l.initial.statements.items)
    × ((l.statements.items ≡ l.initial.statements.items) ⊎ (vec_len l.statements < vec_capacity l.statements))

abbrev pub decreases-loop-place : goal.decreases-loop-place
decreases-loop-place l = vec_len l.statements
