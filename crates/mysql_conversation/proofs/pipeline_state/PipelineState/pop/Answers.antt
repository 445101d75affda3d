use Rattle.std.proofs.Common.{◌≡◌, length, arith}
use Rattle.mysql_conversation.proofs.Queues.{popped}
use Rattle.mysql_conversation.proofs.pipeline_state.PipelineState.pop.Goals as goal

pub returns-clause-first : goal.returns-clause-first
returns-clause-first c =
    let l : length c.args.self.now.waiting ≡ 8 = omega arith in
    popped c.args.self.now.number c.args.self.now.last c.args.self.now.waiting c.command_at.result l (omega arith) (omega arith) c.command_at.ensures
