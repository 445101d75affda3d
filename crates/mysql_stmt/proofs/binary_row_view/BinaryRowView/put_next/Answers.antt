use Rattle.std.proofs.lemmas.Result.{err_from_is_err_and}
use Rattle.mysql_stmt.proofs.RowViews.{first-value, first-fault}
use Rattle.mysql_stmt.proofs.binary_row_view.BinaryRowView.put_next.Goals as goal

pub returns-in_err-put_unless-clause-refused : goal.returns-in_err-put_unless-clause-refused
returns-in_err-put_unless-clause-refused g c =
    let p = err_from_is_err_and c.from_residual.result c.from_residual.ensures.1 in
    rw (p.1, p.2) (first-fault g.C.TypedColumn.type_of g.C.TypedColumn.unsigned _ g.S.SerializationSide.BIT_OFFSET _ _ _ _ _ _ _ c.is_null_at-is_null.ensures.value c.in-Some.ensures.cases.0 c.rest-rest.ensures _ c.self.view_is _ c.in_err-put_unless.ensures.0)

pub returns-clause-value : goal.returns-clause-value
returns-clause-value g c = first-value g.C.TypedColumn.type_of g.C.TypedColumn.unsigned _ g.S.SerializationSide.BIT_OFFSET _ _ _ _ _ _ _ c.is_null_at-is_null.ensures.value c.in-Some.ensures.cases.0 c.rest-rest.ensures _ c.self.view_is _ _ c.in_ok-put_unless.ensures
