use Rattle.mysql_bulk.proofs.RunLoop.{refused_row_of_params}
use Rattle.mysql_bulk.proofs.laws.params_loop_that_refuses_a_row.Goals as goal

pub returns : goal.returns
returns g c = refused_row_of_params g.I.Iterator.next_gives
