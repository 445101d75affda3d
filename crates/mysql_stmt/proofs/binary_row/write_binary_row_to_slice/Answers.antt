use Rattle.std.proofs.Common.{rules, IsTrue, ap, arith}
use Rattle.std.proofs.lemmas.List.{length-map, length-take-le}
use Rattle.mysql_wire.specs.Writing.{saturated}
use Rattle.mysql_stmt.specs.Bitmap.{bytes_for}
use Rattle.mysql_stmt.specs.BinaryRow.{takes_values}
use Rattle.mysql_stmt.specs.ExecuteParam.{value_of}
use Rattle.mysql_stmt.proofs.RowBytes.{taken-contents}
use Rattle.mysql_stmt.proofs.binary_row.write_binary_row_to_slice.Goals as goal

pub put_row-requires-clause-len : goal.put_row-requires-clause-len
unfolding saturated
put_row-requires-clause-len g c =
    let same = ap (bytes_for 2) (length-map c.args.values.now (λ (v : g.row.V.Denot). value_of (g.V.AsExecuteParam.param v))) in
    omega (arith, same, c.saturating_add-len.ensures, c.values_len.ensures, c.bitmap_len-front.ensures.value, length-take-le c.saturating_add-len.result c.args.out.now c.if-len-out.true)

pub returns-then-len-out-clause-len : goal.returns-then-len-out-clause-len
unfolding saturated
returns-then-len-out-clause-len g c =
    let same = ap (bytes_for 2) (length-map c.args.values.now (λ (v : g.row.V.Denot). value_of (g.V.AsExecuteParam.param v))) in
    omega (arith, same, c.saturating_add-len.ensures, c.values_len.ensures, c.bitmap_len-front.ensures.value)

pub returns-else-len-out-clause-len : goal.returns-else-len-out-clause-len
unfolding saturated
returns-else-len-out-clause-len g c =
    let same = ap (bytes_for 2) (length-map c.args.values.now (λ (v : g.row.V.Denot). value_of (g.V.AsExecuteParam.param v))) in
    omega (arith, same, c.saturating_add-len.ensures, c.values_len.ensures, c.bitmap_len-front.ensures.value)

pub returns-then-len-out-clause-taken : goal.returns-then-len-out-clause-taken
returns-then-len-out-clause-taken g c =
    let taken : IsTrue (takes_values g.C.TypedColumn.type_of g.C.TypedColumn.unsigned g.V.AsExecuteParam.param c.args.columns.now c.args.values.now) = search rules in
    taken-contents g.C.TypedColumn.type_of g.C.TypedColumn.unsigned g.V.AsExecuteParam.param c.args.columns.now c.args.values.now taken

pub returns-else-len-out-clause-taken : goal.returns-else-len-out-clause-taken
returns-else-len-out-clause-taken g c =
    let taken : IsTrue (takes_values g.C.TypedColumn.type_of g.C.TypedColumn.unsigned g.V.AsExecuteParam.param c.args.columns.now c.args.values.now) = search rules in
    taken-contents g.C.TypedColumn.type_of g.C.TypedColumn.unsigned g.V.AsExecuteParam.param c.args.columns.now c.args.values.now taken
