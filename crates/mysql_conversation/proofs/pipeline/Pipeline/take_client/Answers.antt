use Rattle.std.proofs.Common.{◌≡◌, ◌-◌, ◌^◌, sym, ◌∙◌, refl, arith, rules}
use Rattle.std.proofs.lemmas.Grind.{common_steps}
use Rattle.mysql_conversation.specs.declared.pipeline.SessionError.TheVariants as refusal
use Rattle.mysql_conversation.proofs.Places.{aside_has_place, idle_full, neither, only, refused_has_place, unexpected_full}
use Rattle.mysql_conversation.proofs.pipeline.Pipeline.take_client.Goals as goal

pub returns-in_default-checked_add-clause-full : goal.returns-in_default-checked_add-clause-full
returns-in_default-checked_add-clause-full c =
    let last : c.args.self.now.last ≡ 2 ^ 64 - 1 = first_of (omega arith, search rules, grind (arith, common_steps)) in
    ((λ e. idle_full c.args.self.now c.args.payload.now _ _ (sym c.is_rest.ensures ∙ c.if-is_rest.true) c.in-Ok-taken.ensures.ok last), (λ h. refl))

pub returns-in-Ok-clause-full : goal.returns-in-Ok-clause-full
returns-in-Ok-clause-full c = neither
    (only c.set_aside.result refusal.Full c.set_aside.ensures.refused (λ e h g. unexpected_full e h.0 g))
    (aside_has_place c.args.self.now c.args.payload.now c.in-Ok.kind _ (sym c.is_due.ensures ∙ c.if-is_due.true) c.in-Ok.ensures.ok)

pub returns-in_default-clause-full : goal.returns-in_default-clause-full
returns-in_default-clause-full c = neither
    (λ e. absurd cc)
    (refused_has_place c.args.self.now c.args.payload.now (sym c.is_due.ensures ∙ c.if-is_due.false) c.in_default.ensures.err.0)
