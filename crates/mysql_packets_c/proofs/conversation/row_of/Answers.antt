use Rattle.std.proofs.Common.{◌∙◌, List, [], ◌∷◌, ◌++◌, IfSome, sym, subst}
use Rattle.mysql_conversation.specs.Piped.{place}
use Rattle.mysql_conversation.specs.Pipelined.{Numbered}
use Rattle.mysql_conversation.specs.PipelineState.{TakenAt}
use Rattle.mysql_conversation.specs.declared.packet_kind.Side.TheVariants.{Server}
use Rattle.mysql_packets_c.specs.Conversation.{agreed_of}
use Rattle.mysql_packets_c.proofs.Conversations.{row_taken}
use Rattle.mysql_packets_c.proofs.conversation.row_of.Goals as goal

pub returns-clause-taken : goal.returns-clause-taken
returns-clause-taken c =
    let p = c.args.payload.now in
    let agreed = subst (λ a. IfSome c.row.result (λ x. (items : List Numbered) → TakenAt a c.state_of.result items → TakenAt a c.state_of.result (items ++ place Server p x.0 x.1 ∷ []))) c.agreed_of.ensures c.row.ensures.taken in
    let taken = subst (λ s. IfSome c.row.result (λ x. (items : List Numbered) → TakenAt (agreed_of c.args.conversation.now) s items → TakenAt (agreed_of c.args.conversation.now) s (items ++ place Server p x.0 x.1 ∷ []))) c.state_of.ensures agreed in
    row_taken c.row.result c.args.conversation.now c.in_ok-opening.opening p (sym c.opening_of.ensures.value ∙ c.in_ok-opening.was) taken
