use Rattle.std.proofs.Common.{◌≡◌, length, map, drop}
use Rattle.mysql_bulk.specs.BulkValue.{cell_of, spells_cells}
use Rattle.mysql_bulk.proofs.bulk_value.spells_values.Given as goal

abbrev pub invariant-loop-place : goal.invariant-loop-place
invariant-loop-place l = record {
  lengths : length l.types ≡ length l.row;
  left : spells_cells l.types (map cell_of l.row) ≡ spells_cells (drop l.place l.types) (map cell_of (drop l.place l.row));
}
