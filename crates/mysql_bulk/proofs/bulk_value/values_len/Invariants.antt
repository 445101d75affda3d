use Rattle.std.proofs.Common.{◌≡◌, ◌+◌, length, map, drop}
use Rattle.mysql_bulk.specs.BulkValue.{cell_of, cells_bytes}
use Rattle.mysql_bulk.proofs.bulk_value.values_len.Given as goal

abbrev pub invariant-loop-place : goal.invariant-loop-place
invariant-loop-place l = length (cells_bytes l.types (map cell_of l.row)) ≡ l.size + length (cells_bytes (drop l.place l.types) (map cell_of (drop l.place l.row)))
