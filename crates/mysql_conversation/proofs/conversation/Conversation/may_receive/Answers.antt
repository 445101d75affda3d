use Rattle.std.proofs.Common.{sym, ◌∙◌}
use Rattle.mysql_conversation.proofs.GoesOn.{goes_on}
use Rattle.mysql_conversation.proofs.conversation.Conversation.may_receive.Goals as goal

pub returns : goal.returns
returns c = λ items h.
    let g = goes_on _ _ items _ c.args.from c.args.name h in
    ((λ e. g.0 (sym c.may_receive.ensures ∙ e)), (λ k. c.may_receive.ensures ∙ g.1 k))
