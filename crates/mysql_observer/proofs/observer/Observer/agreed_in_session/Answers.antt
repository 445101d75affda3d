use Rattle.mysql_observer.proofs.Known.{agreed_is}
use Rattle.mysql_observer.proofs.observer.Observer.agreed_in_session.Goals as goal

pub returns-clause-session : goal.returns-clause-session
returns-clause-session c = agreed_is c.agreed.result c.args.self.now.session c.agreed.ensures.some c.agreed.ensures.none
