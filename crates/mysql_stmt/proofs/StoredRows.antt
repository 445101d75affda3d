-- Rows in one block: its entries, one more entry, and the entry at a place.
use Rattle.std.proofs.Common.{◌≡◌, ◌∙◌, sym, ap, subst, zero, suc, ℕ, ◌+◌, ◌*◌, ◌<◌, ◌≤◌, ◌^◌, ◌++◌, List, [], ◌∷◌, Result, Ok, Err, Some, None, Option, Bool, true, false, length, drop, take, refl, arith, length-append, length-drop}
use Rattle.std.specs.Prelude.{◌/◌, ◌%◌, slice_get, nat_lt, map, if◌then◌else◌}
use Rattle.std.proofs.lemmas.List.{take-append-le, drop-append-le, drop-drop}
use Rattle.mysql_wire.specs.declared.fault.FaultOf.{FaultOf}
use Rattle.mysql_wire.specs.declared.fault.FaultKind.{FaultKind}
use Rattle.mysql_wire.specs.declared.fault.FaultKind.TheVariants as fault_kind
use Rattle.mysql_wire.specs.Form.{bytes, le_value, number}
use Rattle.mysql_wire.specs.Reading.{Reading, Faults, then_read, done-value, done-rest}
use Rattle.mysql_wire.proofs.Refused.{fault-same, no-fault}
use Rattle.mysql_values.specs.Value.{Content}
use Rattle.mysql_stmt.specs.RowView.{read_to}
use Rattle.mysql_stmt.specs.StoredRow.{AreStored, IsStored, entry_reading, first_entry, form_of_code, stored_values, value_read}

-- a fault follows the values, whatever they are
kind-same : (vs ws : List Content) (end : Result (List ℕ) FaultKind) (k : FaultKind) → read_to vs end ≡ Err k → read_to ws end ≡ Err k
kind-same vs ws (Ok rest) k h = absurd cc
kind-same vs ws (Err d) k h = h

pub same-fault : (e : FaultOf) (vs ws : List Content) (here there : Result (List ℕ) FaultKind) → here ≡ there → Faults false e (read_to vs here) → Faults false e (read_to ws there)
same-fault e vs ws here there same h = rw (← same) (fault-same false e (read_to vs here) (read_to ws here) (kind-same vs ws here) h)

-- ---- the entries

pub length-stored : (n : ℕ) (entries block : List ℕ) → length (stored_values n entries block) ≡ n
unfolding stored_values
length-stored zero entries block = refl
length-stored (suc n) entries block = ap suc (length-stored n (drop 8 entries) block)

-- an entry doesn't depend on those after it
same-number : (entries later : List ℕ) → 8 ≤ length entries → first_entry (entries ++ later) ≡ first_entry entries
same-number entries later h = ap le_value (take-append-le 8 entries later h)

same-entry : (entries later block : List ℕ) → 8 ≤ length entries → entry_reading (entries ++ later) block ≡ entry_reading entries block
same-entry entries later block h = ap (λ (n : ℕ). (form_of_code (n / 2 ^ 32)).reads (drop (n % 2 ^ 32) block)) (same-number entries later h)

rest-append : (entries later : List ℕ) → 8 ≤ length entries → drop 8 (entries ++ later) ≡ drop 8 entries ++ later
rest-append entries later h = drop-append-le 8 entries later h

rest-length : (n : ℕ) (entries : List ℕ) → length entries ≡ 8 * suc n → length (drop 8 entries) ≡ 8 * n
rest-length n entries len = omega (arith, len, length-drop 8 entries)

pub values-append : (n : ℕ) (entries later block : List ℕ) → length entries ≡ 8 * n → stored_values n (entries ++ later) block ≡ stored_values n entries block
unfolding stored_values
values-append zero entries later block len = refl
values-append (suc n) entries later block len =
    let enough : 8 ≤ length entries = omega (arith, len) in
    rw (same-entry entries later block enough, rest-append entries later enough)
    (ap (λ (vs : List Content). value_read (entry_reading entries block) ∷ vs) (values-append n (drop 8 entries) later block (rest-length n entries len)))

is-stored-append : (entries later block : List ℕ) → IsStored entries block → IsStored (entries ++ later) block
is-stored-append entries later block h = record {
  size = omega (arith, h.size, length-append entries later);
  place = subst (λ (n : ℕ). n % 2 ^ 32 ≤ length block) (sym (same-number entries later h.size)) h.place;
  good = (h.good.0, h.good.1, same-entry entries later block h.size ∙ h.good.2);
}

pub stored-append : (n : ℕ) (entries later block : List ℕ) → length entries ≡ 8 * n → AreStored n entries block → AreStored n (entries ++ later) block
unfolding AreStored
stored-append zero entries later block len h = tt
stored-append (suc n) entries later block len h =
    let enough : 8 ≤ length entries = omega (arith, len) in (
      is-stored-append entries later block h.0,
      subst (λ (es : List ℕ). AreStored n es block) (sym (rest-append entries later enough)) (stored-append n (drop 8 entries) later block (rest-length n entries len) h.1),
    )

-- one more entry
pub values-more : (n : ℕ) (entries entry block : List ℕ) → length entries ≡ 8 * n → stored_values (suc n) (entries ++ entry) block ≡ stored_values n entries block ++ value_read (entry_reading entry block) ∷ []
unfolding stored_values
values-more zero [] entry block len = refl
values-more zero (a ∷ entries) entry block len = absurd (omega (arith, len))
values-more (suc n) entries entry block len =
    let enough : 8 ≤ length entries = omega (arith, len) in
    rw (same-entry entries entry block enough, rest-append entries entry enough)
    (ap (λ (vs : List Content). value_read (entry_reading entries block) ∷ vs) (values-more n (drop 8 entries) entry block (rest-length n entries len)))

pub stored-more : (n : ℕ) (entries entry block : List ℕ) → length entries ≡ 8 * n → AreStored n entries block → IsStored entry block → AreStored (suc n) (entries ++ entry) block
unfolding AreStored
stored-more zero [] entry block len h here = (here, tt)
stored-more zero (a ∷ entries) entry block len h here = absurd (omega (arith, len))
stored-more (suc n) entries entry block len h here =
    let enough : 8 ≤ length entries = omega (arith, len) in (
      is-stored-append entries entry block h.0,
      subst (λ (es : List ℕ). AreStored (suc n) es block) (sym (rest-append entries entry enough)) (stored-more n (drop 8 entries) entry block (rest-length n entries len) h.1 here),
    )

-- ---- the entry at a place

eight-more : (i : ℕ) (entries : List ℕ) → drop (8 * i) (drop 8 entries) ≡ drop (8 * suc i) entries
eight-more i entries = drop-drop (8 * i) 8 entries ∙ ap (λ (n : ℕ). drop n entries) (let e : 8 + 8 * i ≡ 8 * suc i = omega arith in e)

pub stored-at : (n i : ℕ) (entries block : List ℕ) → i < n → AreStored n entries block → IsStored (drop (8 * i) entries) block
unfolding AreStored
stored-at zero i entries block lt h = absurd (omega (arith, lt))
stored-at (suc n) zero entries block lt h = h.0
stored-at (suc n) (suc i) entries block lt h =
    subst (λ (es : List ℕ). IsStored es block) (eight-more i entries) (stored-at n i (drop 8 entries) block (omega (arith, lt)) h.1)

pub value-at : (n i : ℕ) (entries block : List ℕ) → i < n → slice_get (stored_values n entries block) i ≡ Some (value_read (entry_reading (drop (8 * i) entries) block))
unfolding stored_values
value-at zero i entries block lt = absurd (omega (arith, lt))
value-at (suc n) zero entries block lt = refl
value-at (suc n) (suc i) entries block lt =
    value-at n i (drop 8 entries) block (omega (arith, lt)) ∙ ap (λ (es : List ℕ). Some (value_read (entry_reading es block))) (eight-more i entries)

cut-number : (short : Bool) (front rest : List ℕ) (n : ℕ) (after : List ℕ) → then_read (if short then Err fault_kind.UnexpectedEof else Ok (front, rest)) (λ x mid. Ok (le_value x, mid)) ≡ Ok (n, after)
    → (n ≡ le_value front) × (after ≡ rest)
cut-number true front rest n after h = absurd (cc)
cut-number false front rest n after h = (sym (done-value (le_value front) n rest after h), sym (done-rest (le_value front) n rest after h))

number-is : (width : ℕ) (bytes after : List ℕ) (n : ℕ) → (number width).reads bytes ≡ Ok (n, after) → (n ≡ le_value (take width bytes)) × (after ≡ drop width bytes)
unfolding number bytes
number-is width bytes after n h = cut-number (nat_lt (length bytes) width) (take width bytes) (drop width bytes) n after h

-- bytes that begin with an entry, as it is read
pub entry-is : (i : ℕ) (block bytes after : List ℕ) (entry : ℕ) → bytes ≡ drop (8 * i) block → (number 8).reads bytes ≡ Ok (entry, after) → entry ≡ first_entry (drop (8 * i) block)
entry-is i block bytes after entry is read = (number-is 8 bytes after entry read).0 ∙ ap first_entry is

module _ (n i : ℕ) (block : List ℕ) (entry : ℕ) (lt : i < n) (is : entry ≡ first_entry (drop (8 * i) block)) where
  pub place-there : AreStored n block block → entry % 2 ^ 32 ≤ length block
  place-there h = subst (λ (m : ℕ). m % 2 ^ 32 ≤ length block) (sym is) (stored-at n i block block lt h).place

  -- the value is read at its place
  reading-is : (form_of_code (entry / 2 ^ 32)).reads (drop (entry % 2 ^ 32) block) ≡ entry_reading (drop (8 * i) block) block
  reading-is = ap (λ (m : ℕ). (form_of_code (m / 2 ^ 32)).reads (drop (m % 2 ^ 32) block)) is

  pub value-is : (x : Content) (rest : List ℕ) → (form_of_code (entry / 2 ^ 32)).reads (drop (entry % 2 ^ 32) block) ≡ Ok (x, rest) → slice_get (stored_values n block block) i ≡ Some x
  value-is x rest reads = value-at n i block block lt ∙ ap (λ (r : Reading Content). Some (value_read r)) (sym reading-is ∙ reads)

  pub value-good : (e : FaultOf) → AreStored n block block → Faults false e ((form_of_code (entry / 2 ^ 32)).reads (drop (entry % 2 ^ 32) block)) → ⊥
  value-good e h refused =
      let good = (stored-at n i block block lt h).good in
      no-fault e ((form_of_code (entry / 2 ^ 32)).reads (drop (entry % 2 ^ 32) block)) good.0 good.1 (reading-is ∙ good.2) refused

pub none-at : (values : List Content) (i : ℕ) → length values ≤ i → slice_get values i ≡ None
none-at [] i h = refl
none-at (v ∷ vs) zero h = absurd (omega (arith, h))
none-at (v ∷ vs) (suc i) h = none-at vs i (omega (arith, h))

-- ---- the values as the cells of a row

pub cells-more : (values : List Content) (i : ℕ) (x : Content) → slice_get values i ≡ Some x → map Some (take (i + 1) values) ≡ map Some (take i values) ++ Some x ∷ []
cells-more [] i x h = absurd (cc)
cells-more (v ∷ vs) zero x h = cc
cells-more (v ∷ vs) (suc i) x h =
    let more : suc i + 1 ≡ suc (i + 1) = omega arith in
    rw more (ap (λ (cells : List (Option Content)). Some v ∷ cells) (cells-more vs i x h))
