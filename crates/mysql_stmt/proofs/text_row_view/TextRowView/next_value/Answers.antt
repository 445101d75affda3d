use Rattle.std.proofs.Common.{rules, ℕ, suc, ◌≡◌, List, Ok, false, subst, refl, sym}
use Rattle.std.proofs.lemmas.Result.{err_from_is_err_and}
use Rattle.mysql_wire.specs.Reading.{Faults}
use Rattle.mysql_values.specs.ValueRef.{ref_content}
use Rattle.mysql_values.specs.ValueDeserializer.{text_value}
use Rattle.mysql_stmt.specs.RowView.{RowLeft, Gives, IsDone, RefusesNext, text_row_left}
use Rattle.mysql_stmt.proofs.RowViews.{no-text, one-text, text-fault}
use Rattle.mysql_stmt.proofs.text_row_view.TextRowView.next_value.Goals as goal

pub returns-in_default-clause-value : goal.returns-in_default-clause-value
returns-in_default-clause-value c =
    let none : c.self.inside.left ≡ 0 = search rules in
    (subst IsDone c.self.view_is (none, (no-text (λ place column. text_value) c.self.inside.left c.self.inside.buf none).0), refl)

pub returns-in_err-value-clause-value : goal.returns-in_err-value-clause-value
returns-in_err-value-clause-value c =
    let fault = c.in_err-value.field-0.0 in
    let more : c.self.inside.left ≡ suc c.in-Some.left = search rules in
    let here = subst (λ (bytes : List ℕ). Faults false fault (text_value.reads bytes)) c.rest-rest.ensures c.in_err-value.ensures.value in
    let row = subst (λ (n : ℕ). RefusesNext fault (text_row_left n c.self.inside.buf)) (sym more) (text-fault c.in-Some.left c.self.inside.buf fault here) in
    let p = err_from_is_err_and c.from_residual.result c.from_residual.ensures.1 in
    rw (p.1, p.2) (subst (RefusesNext fault) c.self.view_is row, refl)

pub returns-clause-value : goal.returns-clause-value
returns-clause-value c =
    let buf = c.self.inside.buf in
    let after = c.read_text_ref.new.buf in
    let x = ref_content c.in_ok-value.value in
    let now = text_row_left c.in-Some.left after in
    let more : c.self.inside.left ≡ suc c.in-Some.left = search rules in
    let here = subst (λ (bytes : List ℕ). text_value.reads bytes ≡ Ok (x, after)) c.rest-rest.ensures c.in_ok-value.ensures.value in
    let Was : RowLeft → Type 0 = λ (r : RowLeft). Gives r x now in
    let row = subst (λ (n : ℕ). Was (text_row_left n buf)) (sym more) (one-text c.in-Some.left buf x after here) in
    subst Was c.self.view_is row

pub returns-clause-read : goal.returns-clause-read
returns-clause-read c =
    let x = ref_content c.in_ok-value.value in
    let after = c.read_text_ref.new.buf in
    let here = subst (λ (bytes : List ℕ). text_value.reads bytes ≡ Ok (x, after)) c.rest-rest.ensures c.in_ok-value.ensures.value in
    subst (λ (r : RowLeft). text_value.reads r.rest ≡ Ok (x, after)) c.self.view_is here
