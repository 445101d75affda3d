use Rattle.std.proofs.Common.{◌≡◌, ◌≤◌, List, length, take, ap, sym, ◌∙◌, arith}
use Rattle.std.specs.List.{flat_map, list_all}
use Rattle.std.proofs.lemmas.List.{take_all}
use Rattle.mysql_wire.specs.Writing.{saturated}
use Rattle.mysql_stmt.specs.TextRow.{text_cell_bytes}
use Rattle.mysql_packets_c.specs.Rows.{cell_of, is_cell}
use Rattle.mysql_packets_c.specs.declared.value.CValue.{CValue}
use Rattle.mysql_packets_c.proofs.WrittenRows.{text-cells}
use Rattle.mysql_packets_c.proofs.text_row.long_cells_len.Goals as goal

pub returns : goal.returns
returns c =
    let k = c.loop-value.invariant in
    let values = c.args.values.now in
    let all : take c.loop-value.value-index values ≡ values = take_all c.loop-value.value-index values (omega (arith, c.loop-value-test.false)) in (
      sym (ap (list_all is_cell) all) ∙ k.cells,
      k.len ∙ ap (λ (l : List CValue). saturated (length (flat_map (λ v. text_cell_bytes (cell_of v)) l))) all ∙ ap (λ l. saturated (length l)) (text-cells values),
    )
