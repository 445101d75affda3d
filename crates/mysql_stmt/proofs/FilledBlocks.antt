-- A block filled entry by entry.
use Rattle.std.proofs.Common.{◌≡◌, ◌∙◌, sym, ap, subst, suc, ℕ, ◌+◌, ◌-◌, ◌*◌, ◌<◌, ◌≤◌, ◌^◌, ◌++◌, List, [], ◌∷◌, Ok, length, drop, refl, arith, length-append, append_assoc}
use Rattle.std.specs.Prelude.{◌/◌, ◌%◌}
use Rattle.std.proofs.lemmas.List.{drop-drop, drop_at, append-nil, take_all}
use Rattle.mysql_wire.specs.Form.{le_value}
use Rattle.mysql_wire.specs.LittleEndian.{length-le_bytes, value-le_bytes}
use Rattle.mysql_wire.specs.Reading.{IsTail, IsTail-refl, IsTail-trans}
use Rattle.mysql_wire.specs.Writing.{le_bytes}
use Rattle.mysql_values.specs.Value.{Content}
use Rattle.mysql_stmt.specs.declared.stored_form.StoredForm.{StoredForm}
use Rattle.mysql_stmt.specs.RowView.{RowLeft, Gives}
use Rattle.mysql_stmt.specs.StoredRow.{AreStored, HoldsRow, IsCode, IsStored, ReadsAs, entry_number, entry_reading, first_entry, form_of, form_of_code, stored_size, stored_values, value_read}
use Rattle.mysql_stmt.proofs.StoredRows.{values-append, stored-append, values-more, stored-more}

-- the entries of the values read so far describe them, whatever follows in the block
pub record Filling (row now : RowLeft) (block : List ℕ) : Type 0 where
  pub done : ℕ
  pub count : done + now.left ≡ row.left
  pub len : length block ≡ 8 * done
  pub tail : IsTail now.rest row.rest
  pub end : now.end ≡ row.end
  pub good : (final : List ℕ) → length final ≡ stored_size row → drop (8 * row.left) final ≡ row.rest → (stored_values done block final ++ now.values ≡ row.values) × AreStored done block final

pub filling-none : (row : RowLeft) → Filling row row []
unfolding stored_values AreStored
filling-none row = record {
  done = 0;
  count = omega arith;
  len = refl;
  tail = IsTail-refl row.rest;
  end = refl;
  good = λ final len rest. (refl, tt);
}

tail-length : (tail bytes : List ℕ) (t : IsTail tail bytes) → length bytes ≡ length t.front + length tail
tail-length tail bytes t = ap length t.parts ∙ length-append t.front tail

pub tail-shorter : (tail bytes : List ℕ) → IsTail tail bytes → length tail ≤ length bytes
tail-shorter tail bytes t = let h : length bytes ≡ length t.front + length tail = tail-length tail bytes t in omega (arith, h)

tail-is : (tail bytes : List ℕ) → IsTail tail bytes → drop (length bytes - length tail) bytes ≡ tail
tail-is tail bytes t =
    let h : length bytes ≡ length t.front + length tail = tail-length tail bytes t in
    let n : length t.front ≡ length bytes - length tail = omega (arith, h) in
    subst (λ (b : List ℕ). drop (length bytes - length tail) b ≡ tail) (sym t.parts) (drop_at t.front tail (length bytes - length tail) n)

-- the bytes at the place of the next value
at-place : (row : RowLeft) (tail final : List ℕ) (place : ℕ) → IsTail tail row.rest → drop (8 * row.left) final ≡ row.rest → place ≡ 8 * row.left + (length row.rest - length tail) → drop place final ≡ tail
at-place row tail final place t rest at =
    ap (λ (n : ℕ). drop n final) at ∙ sym (drop-drop (length row.rest - length tail) (8 * row.left) final)
    ∙ ap (λ (b : List ℕ). drop (length row.rest - length tail) b) rest ∙ tail-is tail row.rest t

-- an entry as it is read: the place, and the number of the form
entry-is : (code place : ℕ) → code < 14 → place < 2 ^ 32 → first_entry (le_bytes 8 (entry_number code place)) ≡ entry_number code place
entry-is code place low small =
    let n = entry_number code place in
    let fits : n < 256 ^ 8 = omega (arith, small, low) in
    ap le_value (take_all 8 (le_bytes 8 n) (let l : length (le_bytes 8 n) ≤ 8 = omega (arith, length-le_bytes 8 n) in l)) ∙ value-le_bytes 8 n fits

entry-place : (code place : ℕ) → code < 14 → place < 2 ^ 32 → first_entry (le_bytes 8 (entry_number code place)) % 2 ^ 32 ≡ place
entry-place code place low small = rw (entry-is code place low small) (omega (arith, small))

entry-code : (code place : ℕ) → code < 14 → place < 2 ^ 32 → first_entry (le_bytes 8 (entry_number code place)) / 2 ^ 32 ≡ code
entry-code code place low small = rw (entry-is code place low small) (omega (arith, small))

entry-reads : (f : StoredForm) (code place : ℕ) (final bytes : List ℕ) (x : Content) (after : List ℕ) → IsCode f code → place < 2 ^ 32 → drop place final ≡ bytes → (form_of f).reads bytes ≡ Ok (x, after)
    → entry_reading (le_bytes 8 (entry_number code place)) final ≡ Ok (x, after)
entry-reads f code place final bytes x after is small at reads =
    let entry = first_entry (le_bytes 8 (entry_number code place)) in
    ap (λ (c : ℕ). (form_of_code c).reads (drop (entry % 2 ^ 32) final)) (entry-code code place is.small small)
    ∙ ap (λ (g : StoredForm). (form_of g).reads (drop (entry % 2 ^ 32) final)) is.form
    ∙ ap (λ (n : ℕ). (form_of f).reads (drop n final)) (entry-place code place is.small small) ∙ ap (λ (b : List ℕ). (form_of f).reads b) at ∙ reads

-- one more entry
pub filling-more : (row old new : RowLeft) (block : List ℕ) (f : StoredForm) (code place : ℕ) → IsCode f code → Filling row old block → (x : Content) × Gives old x new × IsTail new.rest old.rest × ReadsAs f old.rest x
    → place ≡ 8 * row.left + length row.rest - length old.rest → stored_size row < 2 ^ 32 → Filling row new (block ++ le_bytes 8 (entry_number code place))
filling-more row old new block f code place is h p at small =
    let x = p.0 in
    let gives = p.1 in
    let after = p.3.0 in
    let reads = p.3.1 in
    let shorter : length old.rest ≤ length row.rest = tail-shorter old.rest row.rest h.tail in
    let place_is : place ≡ 8 * row.left + (length row.rest - length old.rest) = omega (arith, at, shorter) in
    let fits : place < 2 ^ 32 = omega (arith, place_is, small) in
    let entry : List ℕ = le_bytes 8 (entry_number code place) in
    let entry_len : length entry ≡ 8 = length-le_bytes 8 (entry_number code place) in
    record {
      done = suc h.done;
      count = omega (arith, h.count, gives.0);
      len = length-append block entry ∙ omega (arith, h.len, entry_len);
      tail = IsTail-trans new.rest old.rest row.rest p.2 h.tail;
      end = gives.2 ∙ h.end;
      good = λ final len rest.
          let before = h.good final len rest in
          let here : drop place final ≡ old.rest = at-place row old.rest final place h.tail rest place_is in
          let read : entry_reading entry final ≡ Ok (x, after) = entry-reads f code place final old.rest x after is fits here reads in
          let stored : IsStored entry final = record {
            size = omega (arith, entry_len);
            place = omega (arith, entry-place code place is.small fits, place_is, len);
            good = (x, after, read);
          } in
          let one : value_read (entry_reading entry final) ≡ x = ap value_read read in (
            ap (λ (vs : List Content). vs ++ new.values) (values-more h.done block entry final h.len)
                ∙ append_assoc (stored_values h.done block final) (value_read (entry_reading entry final) ∷ []) new.values
                ∙ ap (λ (y : Content). stored_values h.done block final ++ y ∷ new.values) one
                ∙ ap (λ (vs : List Content). stored_values h.done block final ++ vs) (sym gives.1) ∙ before.0,
            stored-more h.done block entry final h.len before.1 stored,
          );
    }

-- all entries, and the bytes after them
pub filling-all : (row now : RowLeft) (block rest : List ℕ) → Filling row now block → now.left ≡ 0 → now.values ≡ [] → now.end ≡ Ok rest → HoldsRow row (block ++ row.rest)
filling-all row now block rest h none no_value end =
    let all : h.done ≡ row.left = omega (arith, h.count, none) in
    let len : length block ≡ 8 * row.left = omega (arith, h.len, all) in
    let final : List ℕ = block ++ row.rest in
    let good = h.good final (length-append block row.rest ∙ omega (arith, len)) (drop_at block row.rest (8 * row.left) len) in
    record {
      values =
          values-append row.left block row.rest final len
          ∙ ap (λ (n : ℕ). stored_values n block final) (sym all)
          ∙ sym (append-nil (stored_values h.done block final))
          ∙ ap (λ (vs : List Content). stored_values h.done block final ++ vs) (sym no_value) ∙ good.0;
      stored = stored-append row.left block row.rest final len (subst (λ (n : ℕ). AreStored n block final) all good.1);
      end = (rest, sym h.end ∙ end);
    }
