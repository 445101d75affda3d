use Rattle.std.proofs.Common.{sym, ◌∙◌}
use Rattle.mysql_conversation.proofs.Begun.{at_rest_is, conversation_at_rest}
use Rattle.mysql_conversation.proofs.conversation.Conversation.is_idle.Goals as goal

pub returns : goal.returns
returns c = λ items h. (
  (λ e. at_rest_is _ _ items _ h (sym c.rests.ensures ∙ e)),
  (λ k. c.rests.ensures ∙ conversation_at_rest _ _ items _ h k),
)
