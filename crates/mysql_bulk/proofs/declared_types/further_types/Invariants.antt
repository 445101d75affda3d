use Rattle.std.proofs.Common.{◌≡◌, ◌++◌, length, map, take, drop}
use Rattle.mysql_bulk.specs.DeclaredTypes.{types_with_row}
use Rattle.mysql_bulk.proofs.declared_types.further_types.Given as goal

abbrev pub invariant-loop-place : goal.invariant-loop-place
invariant-loop-place g l = record {
  lengths : length l.types ≡ length l.row;
  whole : types_with_row l.fn.types (map g.V.RowValue.content l.row) ≡ take l.place l.types ++ types_with_row (drop l.place l.types) (map g.V.RowValue.content (drop l.place l.row));
}
