-- Rows of one length, with their values in one list.
use Rattle.std.proofs.Common.{◌≡◌, ◌≢◌, ℕ, zero, suc, ◌+◌, ◌*◌, ◌≤◌, List, [], ◌∷◌, ◌++◌, length, take, drop, Option, Some, None, unwrap_or, refl, sym, ◌∙◌, ap, subst, arith, length-append, add-one, sum_by}
use Rattle.std.proofs.Math.Nat.{suc-mul, add-mul}
use Rattle.std.proofs.lemmas.List.{nil_from_length, take_all, take-append-le, drop-append-le, length-drop, take-append-drop}
use Rattle.mysql_values.specs.Value.{Content}
use Rattle.mysql_cuts.specs.Cut.{rows_in}
use Rattle.mysql_bulk.specs.Row.{row_size, first_length, EqualLengths, OneLength}
use Rattle.mysql_bulk.specs.Builder.{TakesArity}
use Rattle.mysql_bulk.specs.BuilderRows.{rows_of, waiting_rows, IsFlat}

-- rows of one length are as long as the first
pub one_length : (a : ℕ) (rows : List (List Content)) → EqualLengths a rows → OneLength rows
one_length a [] e = tt
one_length a (row ∷ rows) e = subst (λ n. EqualLengths n (row ∷ rows)) (sym e.0) e

pub first_long : (a : ℕ) (rows : List (List Content)) → rows ≢ [] → EqualLengths a rows → first_length rows ≡ a
first_long a [] n e = absurd (n refl)
first_long a (row ∷ rows) n e = e.0

pub length-rows_of : (a n : ℕ) (values : List Content) → length (rows_of a n values) ≡ n
length-rows_of a zero values = refl
length-rows_of a (suc n) values = ap suc (length-rows_of a n (drop a values))

rows_of-push : (a n : ℕ) (values row : List Content) → length values ≡ n * a → length row ≡ a → rows_of a (suc n) (values ++ row) ≡ rows_of a n values ++ row ∷ []
rows_of-push a zero values row h r =
    rw (nil_from_length values (omega (arith, h))) (ap (λ (l : List Content). l ∷ []) (take_all a row (omega arith)))
rows_of-push a (suc n) values row h r =
    let more : suc n * a ≡ n * a + a = suc-mul n a in
    let long : a ≤ length values = omega (arith, h, more) in
    let rest : length (drop a values) ≡ n * a = omega (arith, h, more, length-drop a values) in
    let first = take-append-le a values row long in
    let others = ap (rows_of a (suc n)) (drop-append-le a values row long) ∙ rows_of-push a n (drop a values) row rest r in
    let here : rows_of a (suc (suc n)) (values ++ row) ≡ take a (values ++ row) ∷ rows_of a (suc n) (drop a (values ++ row)) = refl in
    here ∙ ap (λ (l : List Content). l ∷ rows_of a (suc n) (drop a (values ++ row))) first ∙ ap (λ (l : List (List Content)). take a values ∷ l) others

-- the values are those of the rows
pub rows_in-rows_of : (a n : ℕ) (values : List Content) → length values ≡ n * a → rows_in (rows_of a n values) ≡ values
rows_in-rows_of a zero values h = sym (nil_from_length values (omega (arith, h)))
rows_in-rows_of a (suc n) values h =
    let more : suc n * a ≡ n * a + a = suc-mul n a in
    let rest : length (drop a values) ≡ n * a = omega (arith, h, more, length-drop a values) in
    ap (λ (l : List Content). take a values ++ l) (rows_in-rows_of a n (drop a values) rest) ∙ take-append-drop a values

pub flat_values : (arity : Option ℕ) (count size : ℕ) (values : List Content) → IsFlat arity count size values → values ≡ rows_in (waiting_rows arity count values)
flat_values arity count size values f = sym (rows_in-rows_of (unwrap_or arity 0) count values f.lengths)

-- one more row
pub flat_rows : (arity : Option ℕ) (count size : ℕ) (values row : List Content) → IsFlat arity count size values → TakesArity arity (length row)
    → waiting_rows (Some (length row)) (count + 1) (values ++ row) ≡ waiting_rows arity count values ++ row ∷ []
flat_rows None count size values row f t =
    let none = f.none refl in
    let empty : values ≡ [] = nil_from_length values (f.lengths ∙ ap (λ n. n * 0) none) in
    rw (none, empty) (rows_of-push (length row) zero [] row (omega arith) refl)
flat_rows (Some a) count size values row f t = rw t (rw add-one (rows_of-push a count values row f.lengths t))

pub flat_more : (arity : Option ℕ) (count size total : ℕ) (values row : List Content) → IsFlat arity count size values → TakesArity arity (length row)
    → total ≡ sum_by row_size (waiting_rows arity count values ++ row ∷ []) → IsFlat (Some (length row)) (count + 1) total (values ++ row)
flat_more arity count size total values row f t e = record {
  lengths = length_more arity f t;
  none = λ h. cc;
  size_is = e ∙ ap (sum_by row_size) (sym (flat_rows arity count size values row f t));
}
  where
    length_more : (arity : Option ℕ) → IsFlat arity count size values → TakesArity arity (length row) → length (values ++ row) ≡ (count + 1) * length row
    length_more None f t =
        let h = f.lengths in
        let e : (count + 1) * length row ≡ (0 + 1) * length row = ap (λ m. (m + 1) * length row) (f.none refl) in
        omega (arith, h, e, length-append values row)
    length_more (Some a) f t =
        let h = f.lengths in
        let e : count * length row ≡ count * a = ap (λ m. count * m) t in
        omega (arith, h, e, add-mul count 1 (length row), length-append values row)

-- whether rows are waiting
pub flat_none : (arity : Option ℕ) (count : ℕ) (values : List Content) → waiting_rows arity count values ≡ [] → count ≡ 0
flat_none arity count values e = sym (length-rows_of (unwrap_or arity 0) count values) ∙ ap length e

pub flat_some : (arity : Option ℕ) (count : ℕ) (values : List Content) → count ≡ 0 → waiting_rows arity count values ≡ []
flat_some arity count values e = ap (λ n. rows_of (unwrap_or arity 0) n values) e
