use Rattle.std.proofs.Common.{rules, ◌≡◌, ◌∙◌, length, subst}
use Rattle.mysql_stmt.specs.ExecuteRead.{HasNoParam}
use Rattle.mysql_stmt.proofs.ParamViews.{no-param}
use Rattle.mysql_stmt.proofs.execute_view.ExecuteParamsView.left.Goals as goal

pub returns-clause-done : goal.returns-clause-done
returns-clause-done c =
    let b = c.self.inside.bytes in
    let ps = c.self.inside.params.now in
    λ none.
    let left : b.left ≡ 0 = search rules in
    let empty : length ps ≡ 0 = c.self.invariant ∙ left in
    subst HasNoParam c.self.view_is (left, (no-param b.sends_types b.nulls b.place ps b.types b.values empty).0)
