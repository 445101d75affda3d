use Rattle.std.proofs.Common.{◌≡◌, ◌++◌, drop, map}
use Rattle.mysql_bulk.specs.BulkValue.{cell_of}
use Rattle.mysql_program.specs.RowText.{cell_read}
use Rattle.mysql_program.proofs.row_text.borrowed_row.Given as goal

-- the cells so far, followed by the remaining ones
abbrev pub invariant-loop-cell : goal.invariant-loop-cell
invariant-loop-cell l = map cell_of l.borrowed.items ++ map cell_read (drop l.cell-index l.row) ≡ map cell_read l.row
