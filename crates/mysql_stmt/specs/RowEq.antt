-- Equality of rows: that of their values' contents.
use Rattle.std.specs.Prelude.{Bool, ◌&&◌}
use Rattle.std.specs.Option.{option_eq}
use Rattle.std.specs.Cmp.{IsPartialEquivalence, and_per, on_per, partial_equiv_from_equiv}
use Rattle.std.specs.Cmp.Lexicographic.{pointwise, lists_per, lists_equiv, options_equiv}
use Rattle.mysql_replies.specs.declared.column.Column.{Column}
use Rattle.mysql_values.specs.ContentEq.{content_eq, content_equiv}
use Rattle.mysql_values.specs.Cells.{held}
use Rattle.mysql_stmt.specs.Row.{Cells}
use Rattle.mysql_stmt.specs.RowForm.{RowContent}

cells_per : IsPartialEquivalence (pointwise (option_eq content_eq))
cells_per = partial_equiv_from_equiv (lists_equiv (options_equiv content_equiv))

module _ (column_eq : Column → Column → Bool) where
  -- values with the same contents, and the same columns
  abbrev pub row_content_eq : RowContent → RowContent → Bool
  row_content_eq a b = pointwise (option_eq content_eq) a.cells b.cells && pointwise column_eq a.columns b.columns

  abbrev pub row_eq : Cells → Cells → Bool
  row_eq a b = pointwise (option_eq content_eq) (held a.cells) (held b.cells) && pointwise column_eq a.columns b.columns

  module _ (column_per : IsPartialEquivalence column_eq) where
    pub row_content_per : IsPartialEquivalence row_content_eq
    row_content_per = and_per (on_per (λ (r : RowContent). r.cells) cells_per) (on_per (λ (r : RowContent). r.columns) (lists_per column_per))

    pub row_per : IsPartialEquivalence row_eq
    row_per = and_per (on_per (λ (r : Cells). held r.cells) cells_per) (on_per (λ (r : Cells). r.columns) (lists_per column_per))
