use Rattle.std.proofs.Common.{length, ap, arith}
use Rattle.mysql_wire.specs.Writing.{saturated}
use Rattle.mysql_values.specs.Value.{Content}
use Rattle.mysql_stmt.specs.ExecuteParam.{value_of}
use Rattle.mysql_stmt.proofs.RowBytes.{length-next, bytes-end}
use Rattle.mysql_stmt.proofs.binary_row.values_len.Goals as goal

pub loop-place-preserved : goal.loop-place-preserved
unfolding saturated
loop-place-preserved g c =
    let held : g.row.V.Denot → Content = λ v. value_of (g.V.AsExecuteParam.param v) in
    let k = c.loop-place.invariant in
    let value = c.index-values-place.result in
    let next = length-next g.C.TypedColumn.type_of g.C.TypedColumn.unsigned held c.args.columns.now c.args.values.now c.loop-place.place c.index-columns-place.result value k.lengths c.loop-place-test.true c.index-columns-place.is c.index-values-place.is in
    let cell = c.cell_len.ensures.value in
    record {
      lengths = k.lengths;
      left = rw (c.saturating_add-total.ensures, cell, c.value_type.ensures) (omega (arith, k.left, next));
      small = omega (arith, c.saturating_add-total.ensures);
    }

pub returns : goal.returns
unfolding saturated
returns g c =
    let k = c.loop-place.invariant in
    let held : g.row.V.Denot → Content = λ v. value_of (g.V.AsExecuteParam.param v) in
    let none = ap length (bytes-end g.C.TypedColumn.type_of g.C.TypedColumn.unsigned held c.args.columns.now c.args.values.now c.loop-place.place k.lengths (omega (arith, c.loop-place-test.false))) in
    omega (arith, k.left, k.small, none)
