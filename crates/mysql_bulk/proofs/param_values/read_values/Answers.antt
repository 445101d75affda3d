use Rattle.std.proofs.Common.{is_ok, ap}
use Rattle.std.proofs.lemmas.Result.{err_from_is_err_and}
use Rattle.mysql_bulk.specs.ParamValues.{value_of_column, reads_first}
use Rattle.mysql_wire.proofs.Each.{next-one, one-fails, none-left}
use Rattle.mysql_bulk.proofs.Memory.{faults-where, memory-only, there-read, first-read, next-read}
use Rattle.mysql_bulk.proofs.param_values.read_values.Goals as goal

pub returns-in_err-value-clause-value : goal.returns-in_err-value-clause-value
returns-in_err-value-clause-value c =
    let p = err_from_is_err_and c.from_residual.result c.from_residual.ensures.1 in
    let e = c.in_err-value.field-0.0 in
    rw (p.1, p.2) (faults-where (reads_first c.args.columns.now c.args.buf.now) e _
    (λ is. first-read c.args.columns.now c.loop-column.column-index c.loop-column.rest c.args.buf.now _ c.loop-column-test.true c.loop-column.invariant.first
    (there-read _ (memory-only _ e _ c.in_err-value.ensures.value is)))
    (one-fails value_of_column c.loop-column.values.items c.args.columns.now c.loop-column.column-index c.loop-column.rest _ c.loop-column.invariant.reads _ _ e c.loop-column-test.true c.in_err-value.ensures.value))

pub returns-in_err-push-clause-value : goal.returns-in_err-push-clause-value
returns-in_err-push-clause-value c =
    let p = err_from_is_err_and c.from_residual-in_err-push.result c.from_residual-in_err-push.ensures.1 in
    rw (p.1, p.2) (first-read c.args.columns.now c.loop-column.column-index c.loop-column.rest c.args.buf.now _ c.loop-column-test.true c.loop-column.invariant.first (ap is_ok c.in_ok-value.ensures.value))

pub loop-column-preserved : goal.loop-column-preserved
loop-column-preserved c = record {
  reads =
      rw c.in_ok-push.ensures.items (next-one value_of_column c.loop-column.values.items c.args.columns.now c.loop-column.column-index c.loop-column.rest _ c.loop-column.invariant.reads _ c.in_ok-value.value c.parse.new.self
      c.loop-column-test.true c.in_ok-value.ensures.value);
  first = next-read _ _ c.loop-column.rest _ _ (first-read c.args.columns.now c.loop-column.column-index c.loop-column.rest c.args.buf.now _ c.loop-column-test.true c.loop-column.invariant.first (ap is_ok c.in_ok-value.ensures.value));
}

pub returns-clause-value : goal.returns-clause-value
returns-clause-value c = none-left value_of_column c.loop-column.values.items c.args.columns.now c.loop-column.column-index c.loop-column.rest _ c.loop-column.invariant.reads c.loop-column-test.false
