use Rattle.std.proofs.Common.{◌≡◌, drop}
use Rattle.mysql_bulk.specs.Row.{contents_of_rows}
use Rattle.mysql_program.specs.RowText.{rows_read, value_rows}
use Rattle.mysql_program.proofs.Rows.{prepended}
use Rattle.mysql_program.proofs.row_text.rows_of_values.Given as goal

-- the rows so far, followed by the remaining ones
abbrev pub invariant-loop-row : goal.invariant-loop-row
invariant-loop-row l = prepended (contents_of_rows l.values.items) (value_rows (rows_read (drop l.row-index l.rows))) ≡ value_rows (rows_read l.rows)
