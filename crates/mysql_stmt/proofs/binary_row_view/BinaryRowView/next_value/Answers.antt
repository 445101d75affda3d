use Rattle.std.proofs.Common.{rules, refl}
use Rattle.std.proofs.lemmas.Result.{err_from_is_err_and}
use Rattle.mysql_stmt.proofs.RowViews.{first-value, first-fault, no-value}
use Rattle.mysql_stmt.proofs.binary_row_view.BinaryRowView.next_value.Goals as goal

pub returns-in_default : goal.returns-in_default
returns-in_default g c = record { value = (no-value _ _ _ _ _ c.self.view_is (search rules), refl) }

pub returns-in_err-value : goal.returns-in_err-value
returns-in_err-value g c =
    let p = err_from_is_err_and c.from_residual.result c.from_residual.ensures.1 in
    record { value = rw (p.1, p.2) (first-fault g.C.TypedColumn.type_of g.C.TypedColumn.unsigned _ g.S.SerializationSide.BIT_OFFSET _ _ _ _ _ _ _ c.is_null_at-is_null.ensures.value c.in-Some.ensures.cases.0 c.rest-rest.ensures _ c.self.view_is _ c.in_err-value.ensures.value, refl) }

pub returns : goal.returns
returns g c = record { value = first-value g.C.TypedColumn.type_of g.C.TypedColumn.unsigned _ g.S.SerializationSide.BIT_OFFSET _ _ _ _ _ _ _ c.is_null_at-is_null.ensures.value c.in-Some.ensures.cases.0 c.rest-rest.ensures _ c.self.view_is _ _ c.in_ok-value.ensures.value }
