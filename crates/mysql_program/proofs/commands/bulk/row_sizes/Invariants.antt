use Rattle.std.proofs.Common.{◌≡◌, ◌++◌, drop, map}
use Rattle.mysql_bulk.specs.Row.{contents_of_rows}
use Rattle.mysql_bulk.specs.Row.{row_size}
use Rattle.mysql_program.proofs.commands.bulk.row_sizes.Given as goal

-- the sizes so far, followed by those of the remaining rows
abbrev pub invariant-loop-row : goal.invariant-loop-row
invariant-loop-row l = l.sizes.items ++ map row_size (contents_of_rows (drop l.row-index l.rows)) ≡ map row_size (contents_of_rows l.rows)
