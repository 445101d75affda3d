use Rattle.mysql_bulk.proofs.RunLoop.{refused_params}
use Rattle.mysql_bulk.proofs.laws.params_loop_that_refuses_params.Goals as goal

pub returns : goal.returns
returns g c = refused_params g.I.Iterator.next_gives
