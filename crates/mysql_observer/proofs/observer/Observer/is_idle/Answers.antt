use Rattle.mysql_observer.proofs.observer.Observer.is_idle.Goals as goal

pub returns-clause-resumed : goal.returns-clause-resumed
returns-clause-resumed c = λ a before items h. c.is_idle.ensures.resumed a items h.0
