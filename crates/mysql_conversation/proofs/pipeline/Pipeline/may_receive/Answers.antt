use Rattle.std.proofs.Common.{sym, ◌∙◌}
use Rattle.mysql_conversation.proofs.GoesOn.{pipe_goes_on}
use Rattle.mysql_conversation.proofs.pipeline.Pipeline.may_receive.Goals as goal

pub returns : goal.returns
returns c = λ items h.
    let g = pipe_goes_on _ _ items _ c.args.from c.args.name h in
    ((λ e. g.0 (sym c.is_expected.ensures ∙ e)), (λ k. c.is_expected.ensures ∙ g.1 k))
