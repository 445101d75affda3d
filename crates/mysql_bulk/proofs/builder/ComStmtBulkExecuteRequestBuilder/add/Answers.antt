use Rattle.std.proofs.Common.{List, refl, sym, ◌∙◌, ap}
use Rattle.std.proofs.lemmas.List.{length-map}
use Rattle.mysql_values.specs.declared.value.Value.{Value}
use Rattle.mysql_values.specs.Value.{content_of, contents_of}
use Rattle.mysql_bulk.specs.ColumnTypes.{takes_types}
use Rattle.mysql_bulk.proofs.RunSteps.{none_waits}
use Rattle.mysql_bulk.proofs.builder.ComStmtBulkExecuteRequestBuilder.add.Goals as goal

pub keep-requires-clause-takes : goal.keep-requires-clause-takes
keep-requires-clause-takes c = (
  rw (c.len.ensures ∙ c.args.row.ok.0 ∙ sym (length-map c.args.row.items content_of)) at (c.takes_arity.ensures.0 c.if-not-takes_arity.false),
  ap (λ (r : List Value). takes_types c.args.self.now.state.columns (contents_of r)) (sym c.as_slice.ensures.value) ∙ sym c.takes_types.ensures ∙ c.if-not-takes_types.false,
)

pub keep-requires-clause-fits : goal.keep-requires-clause-fits
keep-requires-clause-fits c = rw c.as_slice-2.ensures.value at c.in-Some.ensures.0

pub keep-requires-clause-size : goal.keep-requires-clause-size
keep-requires-clause-size c = rw c.as_slice-2.ensures.value at c.in-Some.ensures.1

pub returns-else-has_rows-clause-adds : goal.returns-else-has_rows-clause-adds
returns-else-has_rows-clause-adds c = (
  (
    rw (c.len.ensures ∙ c.args.row.ok.0 ∙ sym (length-map c.args.row.items content_of)) at (c.takes_arity.ensures.0 c.if-not-takes_arity.false),
    ap (λ (r : List Value). takes_types c.args.self.now.state.columns (contents_of r)) (sym c.as_slice.ensures.value) ∙ sym c.takes_types.ensures ∙ c.if-not-takes_types.false,
  ),
  rw c.as_slice-2.ensures.value at c.in_default.ensures,
  none_waits c.args.self.now.state.waiting c.if-has_rows.ensures.1,
  refl,
  refl,
)
