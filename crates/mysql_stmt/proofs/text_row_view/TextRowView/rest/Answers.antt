use Rattle.std.proofs.Common.{◌≡◌, Ok, subst}
use Rattle.mysql_values.specs.ValueDeserializer.{text_value}
use Rattle.mysql_stmt.specs.RowView.{RowLeft}
use Rattle.mysql_stmt.proofs.RowViews.{no-text}
use Rattle.mysql_stmt.proofs.text_row_view.TextRowView.rest.Goals as goal

pub returns-clause-value : goal.returns-clause-value
returns-clause-value c =
    subst (λ (r : RowLeft). r.left ≡ 0 → r.end ≡ Ok c.rest.result) c.self.view_is
    (λ none. rw c.rest.ensures (no-text (λ place column. text_value) c.self.inside.left c.self.inside.buf none).1)
