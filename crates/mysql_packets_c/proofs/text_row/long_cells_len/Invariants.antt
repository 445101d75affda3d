use Rattle.std.proofs.Common.{◌≡◌, true, length, take}
use Rattle.std.specs.List.{flat_map, list_all}
use Rattle.mysql_wire.specs.Writing.{saturated}
use Rattle.mysql_stmt.specs.TextRow.{text_cell_bytes}
use Rattle.mysql_packets_c.specs.Rows.{cell_of, is_cell}
use Rattle.mysql_packets_c.proofs.text_row.long_cells_len.Given as goal

abbrev pub invariant-loop-value : goal.invariant-loop-value
invariant-loop-value l = record {
  cells : list_all is_cell (take l.value-index l.values) ≡ true;
  len : l.len ≡ saturated (length (flat_map (λ v. text_cell_bytes (cell_of v)) (take l.value-index l.values)));
}
