use Rattle.std.proofs.Common.{◌≡◌, ◌-◌, ◌^◌, sym, ◌∙◌, refl, arith, rules}
use Rattle.std.proofs.lemmas.Grind.{common_steps}
use Rattle.mysql_conversation.proofs.PipelineStates.{idle_takes_none}
use Rattle.mysql_conversation.proofs.pipeline_state.PipelineState.take_client.Goals as goal

pub returns-in_default-checked_add-clause-full : goal.returns-in_default-checked_add-clause-full
returns-in_default-checked_add-clause-full c =
    let last : c.args.self.now.last ≡ 2 ^ 64 - 1 = first_of (omega arith, search rules, grind (arith, common_steps)) in
    ((λ e. idle_takes_none c.args.agreed c.args.self.now c.args.state.now _ c.args.payload.now _ (sym c.is_rest.ensures ∙ c.if-is_rest.true) c.in-Ok-taken.ensures.ok last), (λ h. refl))
