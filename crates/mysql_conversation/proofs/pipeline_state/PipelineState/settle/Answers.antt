use Rattle.std.proofs.Common.{sym, ◌∙◌}
use Rattle.mysql_conversation.proofs.PipeSteps.{settle_stays}
use Rattle.mysql_conversation.proofs.pipeline_state.PipelineState.settle.Goals as goal

pub returns-after-loop-self-clause-settled : goal.returns-after-loop-self-clause-settled
returns-after-loop-self-clause-settled c = sym (settle_stays _ _ _ _ (sym c.is_rest.ensures ∙ c.loop-self-test.false)) ∙ c.loop-self.invariant.1
