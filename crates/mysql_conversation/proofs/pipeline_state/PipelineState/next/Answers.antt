use Rattle.std.proofs.Common.{◌∙◌, sym, ap}
use Rattle.mysql_conversation.specs.declared.conversation_state.ConversationState.{ConversationState}
use Rattle.mysql_conversation.proofs.PipelineStates.{more_taken, none_refused, some_comes}
use Rattle.mysql_conversation.proofs.pipeline_state.PipelineState.next.Goals as goal

pub returns-in-Err-clause-refused : goal.returns-in-Err-clause-refused
returns-in-Err-clause-refused c = λ items k n e t. none_refused c.args.agreed c.args.self.now c.in-Some.state c.args.from c.args.payload.now (sym c.state_at.ensures ∙ c.in-Some.is) (c.in-Err.ensures.refused e) items k n t

pub returns-in-Err-clause-comes : goal.returns-in-Err-clause-comes
returns-in-Err-clause-comes c = λ e. some_comes c.args.agreed c.args.self.now c.in-Some.state c.args.from c.args.payload.now (sym c.state_at.ensures ∙ c.in-Some.is) (c.in-Err.ensures.comes e)

pub returns-in-Ok-clause-taken : goal.returns-in-Ok-clause-taken
returns-in-Ok-clause-taken c =
    more_taken c.args.agreed c.args.self.now (record { current = c.numbers_of-self.result; number = c.take.new.self.number; last = c.take.new.self.last; waiting = c.take.new.self.waiting })
    c.in-Some.state c.take.new.state c.args.from c.args.payload.now c.in-Ok.taken.0 c.in-Ok.taken.1
    (sym c.state_at.ensures ∙ c.in-Some.is) c.numbers_of-self.ensures.state (c.numbers_of-self.ensures.opening ∙ ap (λ (s : ConversationState). s.opening) c.take.ensures.current) c.take.ensures.queue c.in-Ok.ensures.taken
