use Rattle.std.proofs.Common.{◌≡◌, take}
use Rattle.mysql_bulk.specs.Row.{values_size}
use Rattle.mysql_bulk.proofs.row.size_of_values.Given as goal

abbrev pub invariant-loop-value : goal.invariant-loop-value
invariant-loop-value g l = l.size ≡ values_size g.V.RowValue.content (take l.value-index l.row)
