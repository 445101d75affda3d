use Rattle.mysql_statements.proofs.Params.{data_step}
use Rattle.mysql_statements.proofs.statement.drop_data.Goals as goal

pub loop-place-preserved : goal.loop-place-preserved
loop-place-preserved c = data_step _ _ _ _ c.loop-place-test.true c.loop-place.auto.params c.loop-place.invariant
