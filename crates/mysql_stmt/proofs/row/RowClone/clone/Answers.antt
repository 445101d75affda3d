use Rattle.std.proofs.Common.{◌∙◌, ap}
use Rattle.mysql_values.specs.Cells.{held}
use Rattle.mysql_stmt.proofs.Copies.{held-copied}
use Rattle.mysql_stmt.proofs.row.RowClone.clone.Goals as goal

pub returns : goal.returns
returns c =
    record {
      cases = (
        rw c.new_row_raw.ensures.cells (held-copied _ (λ x r. r) (λ y r. r) (λ x y r. r) c.self.inside.values.items c.in_ok-values.values.items c.in_ok-values.ensures.cases.0 ∙ ap (λ row. held row.cells) c.self.view_is),
        c.new_row_raw.ensures.columns ∙ c.in_ok-columns.ensures.value,
      );
    }
