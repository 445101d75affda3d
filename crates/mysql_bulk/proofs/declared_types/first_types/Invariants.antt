use Rattle.std.proofs.Common.{◌≡◌, ◌≤◌, length, map, take, []}
use Rattle.std.specs.Prelude.{vec_capacity, vec_len}
use Rattle.mysql_bulk.specs.DeclaredTypes.{types_with_row}
use Rattle.mysql_bulk.proofs.declared_types.first_types.Given as goal

abbrev pub invariant-loop-value : goal.invariant-loop-value
invariant-loop-value g l = record {
  so_far : l.types.items ≡ types_with_row [] (map g.V.RowValue.content (take l.value-index l.row));
  count : vec_len l.types ≡ l.value-index;
  capacity : length l.row ≤ vec_capacity l.types;
  kept : vec_capacity l.initial.types ≤ vec_capacity l.types;
}
