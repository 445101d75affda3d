use Rattle.std.proofs.Common.{◌≡◌, ◌++◌, ◌≤◌, map, drop}
use Rattle.mysql_bulk.specs.BulkValue.{cell_of, cells_bytes}
use Rattle.mysql_bulk.proofs.bulk_value.append_values.Given as goal

abbrev pub invariant-loop-place : goal.invariant-loop-place
invariant-loop-place g l = record {
  items : g.O.Buffer.held l.bytes ++ cells_bytes (drop l.place l.types) (map cell_of (drop l.place l.row)) ≡ g.O.Buffer.held l.fn.out ++ cells_bytes l.types (map cell_of l.row);
  capacity : g.O.Buffer.capacity l.fn.out ≤ g.O.Buffer.capacity l.bytes;
}
