use Rattle.std.proofs.Common.{◌≡◌, ◌≤◌, ◌-◌, length, drop}
use Rattle.mysql_wire.specs.Writing.{saturated}
use Rattle.mysql_packets_c.specs.Bulk.{row_bytes, takes_row}
use Rattle.mysql_packets_c.proofs.bulk_cell.long_row_len.Given as goal

abbrev pub invariant-loop-place : goal.invariant-loop-place
invariant-loop-place l = record {
  lengths : length l.columns ≡ length l.row;
  left : takes_row l.columns l.row ≡ takes_row (drop l.place l.columns) (drop l.place l.row);
  less : length (row_bytes (drop l.place l.columns) (drop l.place l.row)) ≤ length (row_bytes l.columns l.row);
  len : l.len ≡ saturated (length (row_bytes l.columns l.row) - length (row_bytes (drop l.place l.columns) (drop l.place l.row)));
}
