use Rattle.mysql_statements.proofs.Params.{at_place}
use Rattle.mysql_statements.specs.Statement.{sent_ahead}
use Rattle.mysql_statements.proofs.statement.mark_sent.Goals as goal

pub returns-then-place-params : goal.returns-then-place-params
returns-then-place-params c = at_place _ sent_ahead _ _ c.if-place-params.true
