use Rattle.std.proofs.Common.{[], refl, arith}
use Rattle.mysql_statements.specs.Table.{empty}
use Rattle.mysql_observer.specs.Tracked.{nothing}
use Rattle.mysql_observer.proofs.InOrder.{stays_in_order}
use Rattle.mysql_observer.proofs.OfSession.{session_orderly}
use Rattle.mysql_observer.proofs.laws.what_is_known_is_in_the_order_of_the_conversation.Goals as goal

pub returns : goal.returns
returns c = λ a front x limits waiting steps logged begins early places.
    let r = stays_in_order a (empty limits) steps [] 0 0 (nothing limits waiting)
    (record { lost = refl; table = refl; queue = refl; ascends = omega arith; commands = tt })
    (session_orderly a front x steps logged begins early) places in
    r.1.table
