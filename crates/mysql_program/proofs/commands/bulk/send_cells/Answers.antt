use Rattle.std.proofs.Common.{sym, ap, ◌∙◌, length}
use Rattle.std.proofs.lemmas.List.{length-map}
use Rattle.mysql_bulk.specs.ValuesRun.{bytes_of, cells_of_rows}
use Rattle.mysql_program.specs.Bulk.{bytes_lines}
use Rattle.mysql_program.specs.RowText.{row_read}
use Rattle.mysql_program.proofs.BulkAnswers.{cells_refused, cells_sent}
use Rattle.mysql_program.proofs.commands.bulk.send_cells.Goals as goal

pub returns-in-Some : goal.returns-in-Some
returns-in-Some c = record {
  value =
      cells_refused c.args.call.now c.args.types.now _ _ _ _ (bytes_of c.build_all_values-requests.result.requests.items) _ c.in-Some.refusal _ _ c.refused_by.result
      (rw c.builder.ensures.value at c.with_types-writer.ensures.settings)
      c.build_all_values-requests.ensures.gives
      (ap cells_of_rows c.as_slice.ensures.value ∙ c.in_ok-cells.ensures.value)
      c.in-Some.is
      c.row_refusal_name.ensures.value
      (c.in_ok-text.ensures.value ∙ ap (λ requests. bytes_lines (bytes_of requests)) c.as_slice-2.ensures.value)
      c.refused_by.ensures.value;
}

pub returns : goal.returns
returns c = record {
  value =
      cells_sent c.args.call.now c.args.types.now _ _ _ _ (bytes_of c.build_all_values-requests.result.requests.items) _ _ _ _ c.sent.result
      (rw c.builder.ensures.value at c.with_types-writer.ensures.settings)
      c.build_all_values-requests.ensures.gives
      (ap cells_of_rows c.as_slice.ensures.value ∙ c.in_ok-cells.ensures.value)
      c.in-None.is
      (c.in_ok-text.ensures.value ∙ ap (λ requests. bytes_lines (bytes_of requests)) c.as_slice-2.ensures.value)
      (c.len.ensures ∙ sym c.as_slice-2.ensures.len ∙ ap length c.as_slice-2.ensures.value ∙ sym (length-map c.build_all_values-requests.result.requests.items (λ request. request.items)))
      (sym (length-map c.args.rows.now row_read))
      c.sent.ensures.value;
}
