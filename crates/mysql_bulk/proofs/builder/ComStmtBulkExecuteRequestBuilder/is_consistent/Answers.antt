use Rattle.mysql_bulk.proofs.BuilderSteps.{consistent}
use Rattle.mysql_bulk.proofs.builder.ComStmtBulkExecuteRequestBuilder.is_consistent.Goals as goal

pub returns : goal.returns
returns c = rw (← c.self.view_is) (consistent c.self.invariant)
