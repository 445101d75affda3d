use Rattle.std.proofs.Common.{ap, inl, refl}
use Rattle.mysql_conversation.specs.LoginState.{phase_at}
use Rattle.mysql_conversation.specs.declared.session.Phase.TheVariants as phase
use Rattle.mysql_packets_c.proofs.session.myp_begin_session.Goals as goal

pub returns-clause-taken : goal.returns-clause-taken
returns-clause-taken c = inl (c.put_login.ensures.login, (phase.Greeting, ap phase_at c.put_login.ensures.state, refl))
