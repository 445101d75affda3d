use Rattle.std.proofs.Common.{◌≡◌, drop, map}
use Rattle.mysql_values.specs.Value.{contents_of}
use Rattle.mysql_program.specs.RowText.{cell_read, values_in}
use Rattle.mysql_program.proofs.Rows.{prepended}
use Rattle.mysql_program.proofs.row_text.values_of_row.Given as goal

-- the values so far, followed by the remaining ones
abbrev pub invariant-loop-cell : goal.invariant-loop-cell
invariant-loop-cell l = prepended (contents_of l.values.items) (values_in (map cell_read (drop l.cell-index l.row))) ≡ values_in (map cell_read l.row)
