use Rattle.mysql_bulk.specs.Run.{NextRequest}
use Rattle.mysql_bulk.proofs.RunLoop.{refused_row}
use Rattle.mysql_bulk.proofs.laws.loop_that_refuses_a_row.Goals as goal

pub returns : goal.returns
returns g c = λ s u requests e w. refused_row g.I.Iterator.next_gives (NextRequest g.I.Iterator.next_gives) (λ s t request n. n) s u requests e w w.ends
