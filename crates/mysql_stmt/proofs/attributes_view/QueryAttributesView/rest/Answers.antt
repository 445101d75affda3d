use Rattle.std.proofs.Common.{◌≡◌, [], Ok, subst}
use Rattle.mysql_stmt.specs.Attributes.{AttributesLeft}
use Rattle.mysql_stmt.proofs.AttributeViews.{none-left}
use Rattle.mysql_stmt.proofs.attributes_view.QueryAttributesView.rest.Goals as goal

pub returns-clause-done : goal.returns-clause-done
returns-clause-done c =
    let v = c.self.inside in
    subst (λ (left : AttributesLeft). left.left ≡ 0 → left.all ≡ Ok ([], c.rest.result)) c.self.view_is
    (λ none. rw c.rest.ensures (none-left v.nulls v.place v.types v.values none))
