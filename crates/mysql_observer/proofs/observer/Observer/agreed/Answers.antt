use Rattle.mysql_observer.proofs.observer.Observer.agreed.Goals as goal

pub returns-clause-resumed : goal.returns-clause-resumed
returns-clause-resumed c = λ a before items h. c.agreed_in_session.ensures.resumed a items h.0
