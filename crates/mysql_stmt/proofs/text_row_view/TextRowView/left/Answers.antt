use Rattle.std.proofs.Common.{subst}
use Rattle.mysql_values.specs.ValueDeserializer.{text_value}
use Rattle.mysql_stmt.specs.RowView.{IsDone}
use Rattle.mysql_stmt.proofs.RowViews.{no-text}
use Rattle.mysql_stmt.proofs.text_row_view.TextRowView.left.Goals as goal

pub returns-clause-done : goal.returns-clause-done
returns-clause-done c = λ none. subst IsDone c.self.view_is (none, (no-text (λ place column. text_value) c.self.inside.left c.self.inside.buf none).0)
