use Rattle.std.proofs.Common.{◌≡◌, length, map, drop}
use Rattle.mysql_bulk.specs.ColumnTypes.{spell_row}
use Rattle.mysql_bulk.proofs.column_types.spell_row.Given as goal

abbrev pub invariant-loop-place : goal.invariant-loop-place
invariant-loop-place g l = record {
  lengths : length l.types ≡ length l.row;
  left : spell_row l.types (map g.V.RowValue.content l.row) ≡ spell_row (drop l.place l.types) (map g.V.RowValue.content (drop l.place l.row));
}
