use Rattle.std.proofs.Common.{◌≡◌, ◌-◌, length, get_or, arith, sym, ap, ◌∙◌}
use Rattle.mysql_conversation.specs.PipelineState.{command_at}
use Rattle.mysql_conversation.specs.Standing.{is_quit}
use Rattle.mysql_conversation.specs.declared.state.Command.{Command}
use Rattle.mysql_conversation.proofs.PipeSteps.{quit_is}
use Rattle.mysql_conversation.proofs.Queues.{last_of}
use Rattle.mysql_conversation.proofs.pipeline_state.PipelineState.quits.Goals as goal

pub returns-in_default : goal.returns-in_default
returns-in_default c =
    let l : length c.args.self.now.waiting ≡ 8 = omega arith in
    let found = last_of c.args.self.now.number c.args.self.now.last c.args.self.now.waiting (omega arith) (omega arith) l in
    let place = ap (λ n. is_quit (command_at (get_or c.args.self.now.waiting (n - 1) 0)).answer) (sym c.count.ensures.count) in
    record { value = sym (found ∙ place ∙ ap (λ (k : Command). is_quit k.answer) (sym c.command_at-last.ensures) ∙ quit_is c.command_at-last.result.answer c.in_default.not-Quit) }
