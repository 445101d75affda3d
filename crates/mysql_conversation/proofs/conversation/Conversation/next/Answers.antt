use Rattle.mysql_conversation.proofs.Begun.{one_more, refused, each_taken, each_refused}
use Rattle.mysql_conversation.specs.Taken.{packet}
use Rattle.mysql_conversation.proofs.conversation.Conversation.next.Goals as goal

pub returns-clause-taken : goal.returns-clause-taken
returns-clause-taken c = each_taken c.take_step.result _ _ (λ k e. λ items h. one_more _ _ items _ c.args.from c.args.payload.now _ _ h e) c.take_step.ensures.ok

pub returns-clause-refused : goal.returns-clause-refused
returns-clause-refused c = each_refused c.take_step.result _ _ (λ e. λ items k h. refused _ _ items _ (packet c.args.from c.args.payload.now k) h e.0) c.take_step.ensures.err
