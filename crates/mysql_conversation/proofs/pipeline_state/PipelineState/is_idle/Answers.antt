use Rattle.std.proofs.Common.{◌≡◌, length, arith, sym, ◌∙◌, true}
use Rattle.std.proofs.lemmas.Bool.{eq-eqb, eqb-true}
use Rattle.mysql_conversation.specs.Machine.{rests}
use Rattle.mysql_conversation.specs.PipelineState.{opening, stands_in}
use Rattle.mysql_conversation.proofs.PipelineStates.{all_taken, none_after, run_at}
use Rattle.mysql_conversation.proofs.Stood.{pipe_at_rest, run_is_pipelined}
use Rattle.mysql_conversation.proofs.pipeline_state.PipelineState.is_idle.Goals as goal

pub returns-then-rests : goal.returns-then-rests
returns-then-rests c = λ agreed items t.
    let s = c.args.self.now in
    let l : length c.args.self.now.waiting ≡ 8 = omega arith in
    let r = run_at agreed s c.in-Some.state items (sym c.state_at.ensures ∙ c.in-Some.is) t in (
      (λ e. run_is_pipelined agreed (opening s) items (stands_in c.in-Some.state s) r (sym c.rests.ensures ∙ c.if-rests.true, none_after s (eqb-true _ _ e))),
      (λ w. eq-eqb _ _ (all_taken s l t.0 (pipe_at_rest agreed (opening s) items (stands_in c.in-Some.state s) r w).1)),
    )

pub returns-else-rests : goal.returns-else-rests
returns-else-rests c = λ agreed items t.
    let s = c.args.self.now in
    let r = run_at agreed s c.in-Some.state items (sym c.state_at.ensures ∙ c.in-Some.is) t in (
      (λ e. absurd cc),
      (λ w. let no : rests c.in-Some.state ≡ true = (pipe_at_rest agreed (opening s) items (stands_in c.in-Some.state s) r w).0 in absurd cc),
    )
