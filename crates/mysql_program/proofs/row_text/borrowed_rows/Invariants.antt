use Rattle.std.proofs.Common.{◌≡◌, ◌++◌, drop}
use Rattle.mysql_bulk.specs.ValuesRun.{cells_of_rows}
use Rattle.mysql_program.specs.RowText.{rows_read}
use Rattle.mysql_program.proofs.row_text.borrowed_rows.Given as goal

-- the rows so far, followed by the remaining ones
abbrev pub invariant-loop-row : goal.invariant-loop-row
invariant-loop-row l = cells_of_rows l.borrowed.items ++ rows_read (drop l.row-index l.rows) ≡ rows_read l.rows
