use Rattle.std.proofs.Common.{◌≡◌, ◌+◌, length, arith, sym, ◌∙◌}
use Rattle.mysql_conversation.proofs.Queues.{early_is}
use Rattle.mysql_conversation.proofs.pipeline_state.PipelineState.push.Goals as goal

pub returns-clause-taken : goal.returns-clause-taken
returns-clause-taken c = λ m.
    let l : length c.args.self.now.waiting ≡ 8 = omega arith in
    let number : c.in-Some-checked_add.number ≡ c.args.self.now.last + 1 = omega arith in
    early_is m c.args.self.now c.args.payload.now c.in-Some.command c.in-Some-checked_add.number c.count-count.result c.byte_of.result
    l c.requires.queue.0 (omega arith) (sym c.command_of.ensures ∙ c.in-Some.is) (sym c.quits.ensures.value ∙ c.if-quits.false) number c.count-count.ensures.count c.byte_of.ensures
