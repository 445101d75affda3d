use Rattle.std.proofs.Common.{◌≡◌, ◌+◌, ◌<◌, ◌&&◌, Bool, false, add-one, length, drop, slice_get, Some, IsTrue, sym, ap, ◌∙◌, arith}
use Rattle.std.proofs.lemmas.Option.{slice_get-get_or}
use Rattle.mysql_stmt.specs.BinaryRow.{takes_param, takes_values}
use Rattle.mysql_stmt.proofs.RowBytes.{taken-next, taken_more}
use Rattle.mysql_stmt.proofs.binary_row.refused_at.Goals as goal

pub returns-then-not-is_taken_by-clause-some : goal.returns-then-not-is_taken_by-clause-some
returns-then-not-is_taken_by-clause-some g c =
    let columns = c.args.columns.now in
    let values = c.args.values.now in
    let i = c.loop-place.place in
    let column = c.index-columns-place.result in
    let value = c.index-values-place.result in
    let within : i < length columns = omega (arith, c.loop-place-test.true, c.requires) in
    let test : takes_param (g.C.TypedColumn.type_of column) (g.C.TypedColumn.unsigned column) (g.V.AsExecuteParam.param value) ≡ false = cc (c.is_taken_by.ensures.value, c.value_type.ensures, c.is_unsigned.ensures, c.if-not-is_taken_by.true) in
    record {
      refused = (
        column,
        value,
        slice_get-get_or columns i column within ∙ ap Some (sym c.index-columns-place.is),
        slice_get-get_or values i value c.loop-place-test.true ∙ ap Some (sym c.index-values-place.is),
        test,
      );
      before = c.loop-place.invariant.before;
    }

pub loop-place-preserved : goal.loop-place-preserved
loop-place-preserved g c =
    let type_of = g.C.TypedColumn.type_of in
    let unsigned = g.C.TypedColumn.unsigned in
    let param = g.V.AsExecuteParam.param in
    let k = c.loop-place.invariant in
    let columns = c.args.columns.now in
    let values = c.args.values.now in
    let i = c.loop-place.place in
    let column = c.index-columns-place.result in
    let value = c.index-values-place.result in
    let within : i < length columns = omega (arith, c.loop-place-test.true, c.requires) in
    let there : slice_get columns i ≡ Some column = slice_get-get_or columns i column within ∙ ap Some (sym c.index-columns-place.is) in
    let at : slice_get values i ≡ Some value = slice_get-get_or values i value c.loop-place-test.true ∙ ap Some (sym c.index-values-place.is) in
    let one : IsTrue (takes_param (type_of column) (unsigned column) (param value)) = cc (c.is_taken_by.ensures.value, c.value_type.ensures, c.is_unsigned.ensures, c.if-not-is_taken_by.false) in
    let later = takes_values type_of unsigned param (drop (i + 1) columns) (drop (i + 1) values) in
    record {
      lengths = k.lengths;
      left = k.left ∙ taken-next type_of unsigned param columns values i column value k.lengths c.loop-place-test.true c.index-columns-place.is c.index-values-place.is ∙ ap (λ (b : Bool). b && later) one;
      before = rw (add-one i) (taken_more type_of unsigned param columns values i column value there at one k.before);
    }
