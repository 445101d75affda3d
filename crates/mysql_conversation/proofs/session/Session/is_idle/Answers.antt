use Rattle.std.proofs.Common.{subst}
use Rattle.mysql_conversation.specs.Session.{TakenIn}
use Rattle.mysql_conversation.proofs.Sessions.{commands_at_rest, at_rest_commands}
use Rattle.mysql_conversation.proofs.Resumed.{resumed_in, resumed_session, session_resumed}
use Rattle.mysql_conversation.proofs.session.Session.is_idle.Goals as goal

pub returns-in-Commands-clause-session : goal.returns-in-Commands-clause-session
returns-in-Commands-clause-session c = λ items t.
    let u = subst (λ ph. TakenIn ph items) c.in-Commands.is t in (
      (λ e. commands_at_rest c.in-Commands.pipeline items (λ rest r. (c.is_idle.ensures rest r).0 e) u),
      (λ s. at_rest_commands c.in-Commands.pipeline items _ (λ rest r q. (c.is_idle.ensures rest r).1 q) u s),
    )

pub returns-in-Commands-clause-resumed : goal.returns-in-Commands-clause-resumed
returns-in-Commands-clause-resumed c = λ a items r.
    let u = resumed_in c.args.self.now c.in-Commands.pipeline a items c.in-Commands.is r in (
      (λ e. resumed_session c.in-Commands.pipeline a items u ((c.is_idle.ensures items u.2).0 e)),
      (λ s. (c.is_idle.ensures items u.2).1 (session_resumed c.in-Commands.pipeline a items u s)),
    )
