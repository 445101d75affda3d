use Rattle.std.proofs.Common.{◌≡◌, ◌++◌, ◌+◌, ◌≤◌, length, map, Some, vec_len, vec_capacity}
use Rattle.std.specs.Vec.Iter.{into_iter_items}
use Rattle.mysql_stmt.proofs.row.new_row.Given as goal

abbrev pub invariant-loop-value : goal.invariant-loop-value
invariant-loop-value l = record {
  moved : l.cells.items ++ map Some (into_iter_items l.value-iterator) ≡ map Some (into_iter_items l.initial.value-iterator);
  capacity : vec_len l.cells + length (into_iter_items l.value-iterator) ≤ vec_capacity l.cells;
}
