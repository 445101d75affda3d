use Rattle.std.proofs.Common.{◌∙◌}
use Rattle.mysql_bulk.proofs.BuilderEq.{same_count, other_count}
use Rattle.mysql_bulk.proofs.builder.ComStmtBulkExecuteRequestBuilder.same_rows_wait.Goals as goal

pub returns-then-self-other : goal.returns-then-self-other
returns-then-self-other c = rw (← c.self.view_is, ← c.other.view_is) (λ same. c.eq.ensures ∙ same_count c.self.inside.values.items c.other.inside.values.items c.self.invariant c.other.invariant same c.if-self-other.true)

pub returns-else-self-other : goal.returns-else-self-other
returns-else-self-other c = rw (← c.self.view_is, ← c.other.view_is) (λ same. other_count c.self.inside.values.items c.other.inside.values.items c.self.invariant c.other.invariant same c.if-self-other.false)
