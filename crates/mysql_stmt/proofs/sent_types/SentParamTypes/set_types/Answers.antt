use Rattle.std.proofs.Common.{◌≡◌, ◌∙◌, ◌∷◌, ap, sym}
use Rattle.mysql_stmt.specs.SentTypes.{NamedType}
use Rattle.mysql_stmt.proofs.SentTypes.{typed-more}
use Rattle.mysql_stmt.proofs.sent_types.SentParamTypes.set_types.Goals as goal

pub loop-place-preserved : goal.loop-place-preserved
loop-place-preserved c =
    let t : NamedType = record { param_type = c.named_type.inside.param_type; name = c.named_type.inside.name.now } in
    let took : c.loop-place.types ≡ t ∷ c.next_type.new.self = c.in-Some.ensures.value ∙ ap (λ (x : NamedType). x ∷ c.next_type.new.self) (sym c.named_type.view_is) in
    typed-more c.args.params.now c.again-types.result c.loop-place.params c.loop-place.place c.loop-place.types c.next_type.new.self t _ c.loop-place-test.true c.loop-place.invariant took
