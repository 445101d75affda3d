use Rattle.mysql_conversation.proofs.PipelineStates.{row_stays}
use Rattle.mysql_conversation.proofs.pipeline_state.PipelineState.row.Goals as goal

pub returns-then-has_queue-clause-taken : goal.returns-then-has_queue-clause-taken
returns-then-has_queue-clause-taken c = row_stays c.args.agreed c.args.self.now c.args.payload.now c.in_ok-kind.kind c.in_ok-kind.ensures.stays
