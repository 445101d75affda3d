use Rattle.std.proofs.Common.{◌∙◌, refl}
use Rattle.mysql_packets_c.proofs.Conversations.{flag_is, session_is, session_taken}
use Rattle.mysql_packets_c.proofs.session.login_is_idle.Goals as goal

pub returns-clause-rests : goal.returns-clause-rests
returns-clause-rests c e items t =
    let over = c.is_idle.ensures.session items (session_taken c.args.numbers.now c.in-Some.session items c.requires.login c.in-Some.ensures.stands t) in
    flag_is c.is_idle.result c.from.result (λ e. c.from.ensures ∙ rw e refl) (λ e. c.from.ensures ∙ rw e refl) (session_is c.is_idle.result c.args.numbers.now items c.requires.login over)
