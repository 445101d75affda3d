use Rattle.std.proofs.Common.{sym, ap, ◌∙◌, length, map}
use Rattle.std.proofs.lemmas.List.{length-map}
use Rattle.mysql_bulk.specs.Row.{contents_of_rows, first_length, row_size}
use Rattle.mysql_program.specs.Bulk.{request_lines}
use Rattle.mysql_program.proofs.BulkAnswers.{names_fewest, was_refused, was_sent}
use Rattle.mysql_program.proofs.commands.bulk.send.Goals as goal

pub returns-in-Some : goal.returns-in-Some
returns-in-Some c =
    let gives = rw c.builder-builder.ensures.value at c.build_all-requests.ensures.gives in record {
      value =
          was_refused c.args.call.now _ _ _ c.in-Some.refusal _ _ _ c.refused_by.result
          (rw c.in-Some.is at gives)
          (rw c.in-Some.is at c.build_all-requests.ensures.of_rows)
          c.refusal_name.ensures.value
          (c.in_ok-text.ensures.value ∙ ap request_lines c.as_slice-3.ensures.value)
          c.refused_by.ensures.value;
    }

pub returns : goal.returns
returns c =
    let gives = rw c.builder-builder.ensures.value at c.build_all-requests.ensures.gives in
    let names = names_fewest c.fewest_cut_is_named_by_its_ends.ensures c.args.call.now _ _ _ _ _ gives c.in-None.is in
    let sizes = c.as_slice-sizes.ensures.value ∙ c.in_ok-sizes.ensures.value ∙ ap (λ rows. map row_size (contents_of_rows rows)) c.as_slice-2.ensures.value in
    let arity = c.first_length-arity.ensures.value ∙ ap (λ rows. first_length (contents_of_rows rows)) c.as_slice.ensures.value in
    let exact = rw (c.rule.ensures.value, c.limit.ensures.value, arity, sizes, c.as_slice-ends.ensures.value) at c.cut_is_fewest-fewest.ensures.exact in record {
      value =
          was_sent c.args.call.now _ _ _ _ _ _ _ _ c.sent.result
          (rw c.in-None.is at gives)
          (c.in_ok-text.ensures.value ∙ ap request_lines c.as_slice-3.ensures.value)
          (c.len.ensures ∙ sym c.as_slice-3.ensures.len ∙ ap length c.as_slice-3.ensures.value)
          (ap length sizes ∙ length-map (contents_of_rows c.args.rows.items) row_size)
          (exact.1 names)
          c.sent.ensures.value;
    }
