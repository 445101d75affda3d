use Rattle.std.proofs.Common.{◌≡◌, ◌≤◌, drop, length, vec_capacity}
use Rattle.mysql_wire.specs.Each.{each}
use Rattle.mysql_wire.proofs.Counted.{with_front}
use Rattle.mysql_values.specs.Cells.{held}
use Rattle.mysql_stmt.specs.RowForm.{text_cell, text_row}
use Rattle.mysql_stmt.proofs.row_protocol.TextRowProtocol.read_cells.Given as goal

abbrev pub invariant-loop : goal.invariant-loop
invariant-loop g l = record {
  so_far : with_front (held l.cells.items) ((each text_cell l.index (drop l.index l.columns)).reads l.rest) ≡ (text_row l.columns).reads l.fn.buf;
  count : length l.cells.items ≡ l.index;
  within : l.index ≤ length l.columns;
  capacity : length l.columns ≤ vec_capacity l.cells;
}
