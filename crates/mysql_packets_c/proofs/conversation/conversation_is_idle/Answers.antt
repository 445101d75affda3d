use Rattle.std.proofs.Common.{◌∙◌, refl, sym}
use Rattle.mysql_packets_c.proofs.Conversations.{flag_is, idle_at}
use Rattle.mysql_packets_c.proofs.conversation.conversation_is_idle.Goals as goal

pub returns-clause-rests : goal.returns-clause-rests
returns-clause-rests c e items t =
    flag_is c.is_idle.result c.from.result (λ e. c.from.ensures ∙ rw e refl) (λ e. c.from.ensures ∙ rw e refl)
    (idle_at c.is_idle.result c.args.conversation.now c.in-Some.opening c.state_of-state.result items (sym c.opening_of.ensures.value ∙ c.in-Some.is) c.state_of-state.ensures c.is_idle.ensures t)
