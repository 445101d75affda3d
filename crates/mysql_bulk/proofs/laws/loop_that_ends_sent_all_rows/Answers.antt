use Rattle.mysql_bulk.specs.Run.{NextRequest}
use Rattle.mysql_bulk.proofs.RunLoop.{sent_all}
use Rattle.mysql_bulk.proofs.laws.loop_that_ends_sent_all_rows.Goals as goal

pub returns : goal.returns
returns g c = λ s u requests w. sent_all g.I.Iterator.next_gives (NextRequest g.I.Iterator.next_gives) (λ s t request n. n) s u requests w w.ends
