use Rattle.std.proofs.Common.{◌≡◌, ◌++◌, ◌+◌, ◌≤◌, length, map, Some, vec_len, vec_capacity}
use Rattle.std.specs.Vec.Iter.{into_iter_items}
use Rattle.mysql_stmt.specs.Row.{AllThere}
use Rattle.mysql_stmt.proofs.row.Row.unwrap.Given as goal

abbrev pub invariant-loop-cell : goal.invariant-loop-cell
invariant-loop-cell l = record {
  moved : map Some l.values.items ++ into_iter_items l.cell-iterator ≡ into_iter_items l.initial.cell-iterator;
  capacity : vec_len l.values + length (into_iter_items l.cell-iterator) ≤ vec_capacity l.values;
  there : AllThere (into_iter_items l.cell-iterator);
}
