use Rattle.std.proofs.Common.{rules, ℕ, List, subst, refl}
use Rattle.std.proofs.lemmas.Result.{err_from_is_err_and}
use Rattle.mysql_wire.specs.Reading.{IsTail}
use Rattle.mysql_stmt.specs.StoredRow.{ReadsAs}
use Rattle.mysql_stmt.specs.RowView.{RowLeft, ref_unless}
use Rattle.mysql_stmt.proofs.RowViews.{first-value, first-fault, no-value}
use Rattle.mysql_stmt.proofs.binary_row_view.BinaryRowViewRowView.next_form.Goals as goal

pub returns-in_default : goal.returns-in_default
returns-in_default g c = record { value = (no-value _ _ _ _ _ c.self.view_is (search rules), refl) }

pub returns-in_err-form : goal.returns-in_err-form
returns-in_err-form g c =
    let p = err_from_is_err_and c.from_residual.result c.from_residual.ensures.1 in
    record { value = rw (p.1, p.2) (first-fault g.C.TypedColumn.type_of g.C.TypedColumn.unsigned _ g.S.SerializationSide.BIT_OFFSET _ _ _ _ _ _ _ c.is_null_at-is_null.ensures.value c.in-Some.ensures.cases.0 c.rest-rest.ensures _ c.self.view_is _ c.in_err-form.ensures.value, refl) }

pub returns : goal.returns
returns g c =
    let passed = c.in_ok-form.ensures.value in
    let x = passed.0 in
    let form = ref_unless g.C.TypedColumn.type_of g.C.TypedColumn.unsigned c.is_null_at-is_null.result c.in-Some.column.now in
    record {
      value = (
        x,
        first-value g.C.TypedColumn.type_of g.C.TypedColumn.unsigned _ g.S.SerializationSide.BIT_OFFSET _ _ _ _ _ _ _ c.is_null_at-is_null.ensures.value c.in-Some.ensures.cases.0 c.rest-rest.ensures _ c.self.view_is _ _ passed.1,
        subst (λ (r : RowLeft). IsTail c.pass_unless.new.buf r.rest) c.self.view_is
            (subst (λ (b : List ℕ). IsTail c.pass_unless.new.buf b) c.rest-rest.ensures (form.front x c.rest-rest.result c.pass_unless.new.buf passed.1)),
        subst (λ (r : RowLeft). ReadsAs c.in_ok-form.form r.rest x) c.self.view_is
            (subst (λ (b : List ℕ). ReadsAs c.in_ok-form.form b x) c.rest-rest.ensures passed.2),
      );
    }
