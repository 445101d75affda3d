use Rattle.std.proofs.Common.{ap, ◌∙◌}
use Rattle.mysql_statements.proofs.Params.{at_place}
use Rattle.mysql_statements.specs.Statement.{at, with_type}
use Rattle.mysql_statements.proofs.statement.set_type.Goals as goal

pub returns-then-place-params : goal.returns-then-place-params
returns-then-place-params c =
    at_place _ (with_type c.args.param_type) _ _ c.if-place-params.true
    ∙ ap (λ k. at k (with_type c.args.param_type) c.args.params.now) c.saturating_sub-place.ensures
