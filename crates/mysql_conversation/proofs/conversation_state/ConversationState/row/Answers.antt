use Rattle.std.proofs.Common.{◌≡◌, Option, Some, None, IfSome, refl, sym, ◌∙◌}
use Rattle.mysql_conversation.specs.ConversationState.{request_at, state_at}
use Rattle.mysql_conversation.specs.declared.conversation_state.ConversationState.{ConversationState}
use Rattle.mysql_conversation.specs.declared.state.Request.{Request}
use Rattle.mysql_conversation.specs.declared.state.State.TheVariants as state
use Rattle.mysql_conversation.proofs.conversation_state.ConversationState.row.Goals as goal

rows_at : (s : ConversationState) (r : Request) → s.place ≡ 7 → request_at s.request ≡ Some r → state_at s ≡ Some (state.Rows r)
rows_at s r e q = rw (e, q) refl

both_some : {A : Type 0} {P Q R : A → Type 0} (r : Option A) → ((x : A) → P x → Q x → R x) → IfSome r P → IfSome r Q → IfSome r R
both_some (Some x) f g h = f x g h
both_some None f g h = tt

pub returns-clause-stays : goal.returns-clause-stays
returns-clause-stays c =
    let e = rows_at c.args.self.now c.in_ok-request.request c.if-self-ne7.false (sym c.request_at.ensures ∙ c.in_ok-request.was) in
    both_some c.row_at.result (λ k g h. (state.Rows c.in_ok-request.request, e, g, h.0, h.1, h.2)) c.row_at.ensures.some c.row_at.ensures.quiet
