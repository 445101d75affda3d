use Rattle.std.proofs.Common.{rules, ◌≡◌, ◌∙◌, sym, length, subst, refl}
use Rattle.mysql_stmt.specs.ExecuteRead.{HasNoParam}
use Rattle.mysql_stmt.proofs.ParamViews.{no-param}
use Rattle.mysql_stmt.proofs.execute_view.ExecuteParamsView.next_param.Goals as goal

pub returns-in_default : goal.returns-in_default
returns-in_default c =
    let b = c.self.inside.bytes in
    let ps = c.self.inside.params.now in
    let none : length ps ≡ 0 = search rules in
    record { value = (subst HasNoParam c.self.view_is (sym c.self.invariant ∙ none, (no-param b.sends_types b.nulls b.place ps b.types b.values none).0), refl) }
