use Rattle.std.proofs.Common.{◌≡◌, ◌≤◌, Some, take, vec_capacity, vec_len}
use Rattle.std.specs.Prelude.{map}
use Rattle.mysql_values.specs.Cells.{held}
use Rattle.mysql_stmt.proofs.stored_row.StoredRow.to_row.Given as goal

abbrev pub invariant-loop-place : goal.invariant-loop-place
invariant-loop-place l = record {
  held : held l.cells.items ≡ map Some (take l.place l.self.values);
  len : vec_len l.cells ≡ l.place;
  capacity : l.count ≤ vec_capacity l.cells;
}
