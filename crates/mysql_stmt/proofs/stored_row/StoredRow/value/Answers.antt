use Rattle.std.proofs.Common.{◌≡◌, ◌≤◌, ◌*◌, ◌^◌, ℕ, List, false, Ok, Some, length, drop, subst, sym, ap, ◌∙◌, arith, length-drop}
use Rattle.std.specs.Prelude.{◌/◌, ◌%◌, slice_get}
use Rattle.std.proofs.lemmas.List.{take_rest}
use Rattle.mysql_wire.specs.Reading.{Faults}
use Rattle.mysql_values.specs.ValueRef.{ref_content}
use Rattle.mysql_stmt.specs.StoredRow.{IsStored, Stored, first_entry, form_of_code}
use Rattle.mysql_stmt.proofs.StoredRows.{length-stored, none-at, place-there, stored-at, value-good, value-is}
use Rattle.mysql_stmt.proofs.stored_row.StoredRow.value.Goals as goal

pub returns-then-index-self : goal.returns-then-index-self
returns-then-index-self c =
    let r = c.self.inside in
    let count : length c.args.self.now.values ≡ r.count = subst (λ (s : Stored). length s.values ≡ r.count) c.self.view_is (length-stored r.count r.block.items r.block.items) in
    record { value = sym (none-at c.args.self.now.values c.args.index (omega (arith, count, c.if-index-self.true))) }

pub entry_at-entry-requires : goal.entry_at-entry-requires
entry_at-entry-requires c =
    let r = c.self.inside in
    let s : IsStored (drop (8 * c.args.index) r.block.items) r.block.items = stored-at r.count c.args.index r.block.items r.block.items c.if-index-self.false c.self.invariant in
    omega (arith, s.size, length-drop (8 * c.args.index) r.block.items, ap length c.as_slice-block.ensures.value)

-- the place of the entry is in the block
pub slice_bounds-new-count : goal.slice_bounds-new-count
slice_bounds-new-count c =
    let r = c.self.inside in
    let same = c.as_slice-block.ensures.value in
    let is = c.entry_at-entry.ensures.value ∙ ap (λ (b : List ℕ). first_entry (drop (8 * c.args.index) b)) same in
    subst (λ (b : List ℕ). c.entry_at-entry.result % 2 ^ 32 ≤ length b) (sym same) (place-there r.count c.args.index r.block.items c.entry_at-entry.result c.if-index-self.false is c.self.invariant)

pub slice_bounds-new-start : goal.slice_bounds-new-start
slice_bounds-new-start c =
    let r = c.self.inside in
    let same = c.as_slice-block.ensures.value in
    let is = c.entry_at-entry.ensures.value ∙ ap (λ (b : List ℕ). first_entry (drop (8 * c.args.index) b)) same in
    let there = place-there r.count c.args.index r.block.items c.entry_at-entry.result c.if-index-self.false is c.self.invariant in
    omega (arith, there, ap length same)

pub returns-in-Ok : goal.returns-in-Ok
returns-in-Ok c =
    let r = c.self.inside in
    let entry = c.entry_at-entry.result in
    let same = c.as_slice-block.ensures.value in
    let is = c.entry_at-entry.ensures.value ∙ ap (λ (b : List ℕ). first_entry (drop (8 * c.args.index) b)) same in
    let there : c.new-bytes.result ≡ drop (entry % 2 ^ 32) r.block.items = c.new-bytes.ensures ∙ take_rest c.as_slice-block.result.now (entry % 2 ^ 32) ∙ ap (λ (b : List ℕ). drop (entry % 2 ^ 32) b) same in
    let reads = subst (λ (b : List ℕ). (form_of_code (entry / 2 ^ 32)).reads b ≡ Ok (ref_content c.in-Ok.value, c.read_coded.new.buf)) there c.in-Ok.ensures.value in
    let found = value-is r.count c.args.index r.block.items entry c.if-index-self.false is (ref_content c.in-Ok.value) c.read_coded.new.buf reads in
    record { value = sym (subst (λ (s : Stored). slice_get s.values c.args.index ≡ Some (ref_content c.in-Ok.value)) c.self.view_is found) }

pub returns-in-Err : goal.returns-in-Err
returns-in-Err c =
    let r = c.self.inside in
    let entry = c.entry_at-entry.result in
    let same = c.as_slice-block.ensures.value in
    let is = c.entry_at-entry.ensures.value ∙ ap (λ (b : List ℕ). first_entry (drop (8 * c.args.index) b)) same in
    let there : c.new-bytes.result ≡ drop (entry % 2 ^ 32) r.block.items = c.new-bytes.ensures ∙ take_rest c.as_slice-block.result.now (entry % 2 ^ 32) ∙ ap (λ (b : List ℕ). drop (entry % 2 ^ 32) b) same in
    let refused = subst (λ (b : List ℕ). Faults false c.in-Err.field-0 ((form_of_code (entry / 2 ^ 32)).reads b)) there c.in-Err.ensures.value in
    absurd (value-good r.count c.args.index r.block.items entry c.if-index-self.false is c.in-Err.field-0 c.self.invariant refused)
