use Rattle.std.proofs.Common.{◌≡◌, length, arith, sym}
use Rattle.mysql_conversation.proofs.Queues.{queue_length}
use Rattle.mysql_conversation.proofs.pipeline_state.PipelineState.count.Goals as goal

pub returns-clause-length : goal.returns-clause-length
returns-clause-length c =
    let l : length c.args.self.now.waiting ≡ 8 = omega arith in
    sym (queue_length c.args.self.now l c.requires.queue.1)
