use Rattle.std.proofs.Common.{◌≡◌, length, subst, sym, ap, ◌∙◌, eq-eqb, eqb-true}
use Rattle.std.proofs.lemmas.List.{nil_from_length}
use Rattle.mysql_stmt.specs.StoredRow.{Stored}
use Rattle.mysql_stmt.proofs.StoredRows.{length-stored}
use Rattle.mysql_stmt.proofs.stored_row.StoredRow.is_empty.Goals as goal

pub returns : goal.returns
returns c =
    let r = c.self.inside in
    let count : r.count ≡ length c.args.self.now.values = subst (λ (s : Stored). r.count ≡ length s.values) c.self.view_is (sym (length-stored r.count r.block.items r.block.items)) in
    record { value = (λ none. nil_from_length c.args.self.now.values (sym count ∙ eqb-true _ _ none), λ none. eq-eqb _ _ (count ∙ ap length none)) }
