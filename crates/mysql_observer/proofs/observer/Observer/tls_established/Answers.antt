use Rattle.std.proofs.Common.{ap, ◌∙◌}
use Rattle.mysql_conversation.specs.Session.{deciphered_in}
use Rattle.mysql_observer.proofs.observer.Observer.tls_established.Goals as goal

pub returns-clause-resumed : goal.returns-clause-resumed
returns-clause-resumed c = λ a before items h. ((h.0.0, c.tls_established.ensures.after ∙ ap deciphered_in h.0.1, h.0.2, h.0.3, h.0.4), h.1, h.2)
