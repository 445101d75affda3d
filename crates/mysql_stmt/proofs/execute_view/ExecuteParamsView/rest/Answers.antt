use Rattle.std.proofs.Common.{◌≡◌, ◌∙◌, Ok, subst}
use Rattle.mysql_stmt.specs.ExecuteRead.{ParamsLeft}
use Rattle.mysql_stmt.proofs.ParamViews.{no-param}
use Rattle.mysql_stmt.proofs.execute_view.ExecuteParamsView.rest.Goals as goal

pub returns-clause-value : goal.returns-clause-value
returns-clause-value c =
    let b = c.self.inside.bytes in
    let ps = c.self.inside.params.now in
    subst (λ (r : ParamsLeft). r.left ≡ 0 → r.end ≡ Ok c.rest.result) c.self.view_is
    (λ none. rw c.rest.ensures.value (no-param b.sends_types b.nulls b.place ps b.types b.values (c.self.invariant ∙ none)).1)
