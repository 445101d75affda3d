use Rattle.std.proofs.Common.{◌≡◌, ◌⊎◌, inl, inr, List, subst, refl}
use Rattle.mysql_conversation.specs.Agreements.{Agreed}
use Rattle.mysql_conversation.specs.Pipelined.{Numbered}
use Rattle.mysql_conversation.specs.Session.{TakenIn}
use Rattle.mysql_conversation.specs.declared.session.Phase.{Phase}
use Rattle.mysql_conversation.specs.declared.session.Phase.TheVariants as phase
use Rattle.mysql_conversation.proofs.session.Session.login_state.Goals as goal

taken_in_tls : (ph : Phase) (server : Agreed) (items : List Numbered) → (ph ≡ phase.Encrypted server) ⊎ (ph ≡ phase.InTls server) → TakenIn ph items → TakenIn (phase.InTls server) items
taken_in_tls ph server items (inl e) t = subst (λ p. TakenIn p items) e t
taken_in_tls ph server items (inr e) t = subst (λ p. TakenIn p items) e t

pub returns-in-Encrypted-clause-taken : goal.returns-in-Encrypted-clause-taken
returns-in-Encrypted-clause-taken c = λ items t. (phase.InTls c.in-Encrypted.server, refl, taken_in_tls c.args.self.now.phase c.in-Encrypted.server items c.in-Encrypted.is t)
