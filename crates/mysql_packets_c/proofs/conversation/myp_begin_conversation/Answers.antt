use Rattle.std.proofs.Common.{◌∙◌, inr, refl, sym, ap, Some}
use Rattle.mysql_packets_c.proofs.Conversations.{begun_at}
use Rattle.mysql_packets_c.proofs.conversation.myp_begin_conversation.Goals as goal

pub returns-clause-begun : goal.returns-clause-begun
returns-clause-begun c lt = (
  refl,
  inr (begun_at c.keep.new.numbers c.new.result c.keep.ensures.opening c.keep.ensures.state c.new.ensures.taken),
  (c.keep.ensures.agreed, c.keep.ensures.opening ∙ ap Some c.new.ensures.opening ∙ sym c.in-Some.is ∙ c.opening_of.ensures.value),
)
