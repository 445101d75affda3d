use Rattle.std.proofs.Common.{ap, subst, Some}
use Rattle.mysql_conversation.specs.Session.{TakenIn}
use Rattle.mysql_conversation.proofs.Resumed.{resumed_in}
use Rattle.mysql_conversation.proofs.Sessions.{login_is_among}
use Rattle.mysql_conversation.proofs.session.Session.agreed.Goals as goal

pub returns-in-Commands-clause-some : goal.returns-in-Commands-clause-some
returns-in-Commands-clause-some c = λ items t. login_is_among c.in-Commands.pipeline items (subst (λ ph. TakenIn ph items) c.in-Commands.is t)

pub returns-in-Commands-clause-resumed : goal.returns-in-Commands-clause-resumed
returns-in-Commands-clause-resumed c = λ a items r. ap Some (resumed_in c.args.self.now c.in-Commands.pipeline a items c.in-Commands.is r).0
