use Rattle.std.proofs.Common.{◌≡◌, ◌≤◌, drop, length, vec_capacity}
use Rattle.mysql_wire.specs.Each.{each}
use Rattle.mysql_wire.proofs.Counted.{with_front}
use Rattle.mysql_values.specs.Cells.{held}
use Rattle.mysql_stmt.specs.RowForm.{bin_cell, bin_cells}
use Rattle.mysql_stmt.proofs.row_values.read_values.Given as goal

abbrev pub invariant-loop-i : goal.invariant-loop-i
invariant-loop-i g l = record {
  so_far : with_front (held l.cells.items) ((each (bin_cell l.nulls.bytes g.S.SerializationSide.BIT_OFFSET) l.i (drop l.i l.columns)).reads l.rest) ≡ (bin_cells l.nulls.bytes g.S.SerializationSide.BIT_OFFSET l.columns).reads l.fn.buf;
  count : length l.cells.items ≡ l.i;
  within : l.i ≤ length l.columns;
  capacity : length l.columns ≤ vec_capacity l.cells;
}
