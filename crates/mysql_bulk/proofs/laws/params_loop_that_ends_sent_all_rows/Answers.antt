use Rattle.mysql_bulk.proofs.RunLoop.{sent_all_params}
use Rattle.mysql_bulk.proofs.laws.params_loop_that_ends_sent_all_rows.Goals as goal

pub returns : goal.returns
returns g c = sent_all_params g.I.Iterator.next_gives
