-- Marks of missing bytes.
use Rattle.std.proofs.Common.{◌≡◌, ℕ, ◌+◌, ◌*◌, ◌-◌, ◌^◌, ◌%◌, ◌<◌, ◌≤◌, zero, suc, List, [], ◌∷◌, length, drop, slice_index, arith, sym, ap, subst, ◌∙◌}
use Rattle.std.proofs.Math.Nat.{pow-le-pow_right}
use Rattle.mysql_recorder.specs.Marks.{BeginsWithDigits, EndsDigits, IsMarkOf, mark_end, number_at}

-- the rest is shorter by at least one digit
some_digits : (n : ℕ) (text : List ℕ) → length (drop n text) < length text → 1 ≤ n
some_digits zero text h = absurd (omega arith)
some_digits (suc n) text h = omega arith

-- the number of these digits is below this power of 10
below : (n : ℕ) (text : List ℕ) → BeginsWithDigits n text → number_at n text < 10 ^ n
below zero text h = omega arith
below (suc n) text h =
    let less : number_at n text < 10 ^ n = below n text (λ k lt. h k (omega arith)) in
    let digit = h n (omega arith) in
    omega (arith, less, digit.0, digit.1)

-- one more digit
pub number_more : (n number value c : ℕ) (text : List ℕ) → n < 19 → BeginsWithDigits n text → number ≡ number_at n text → c ≡ slice_index text n → 48 ≤ c → c ≤ 57 → value ≡ c - 48
    → (number * 10 % 18446744073709551616 + value) % 18446744073709551616 ≡ number_at (n + 1) text
number_more n number value c text few digits is at low high value_is =
    let less : number_at n text < 10 ^ n = below n text digits in
    let le : n ≤ 18 = omega (arith, few) in
    let most : 10 ^ n ≤ 10 ^ 18 = pow-le-pow_right (omega arith) le in
    let small : number < 1000000000000000000 = omega (arith, less, most, is) in
    let next : suc n ≡ n + 1 = omega arith in
    let step : (number * 10 % 18446744073709551616 + value) % 18446744073709551616 ≡ number_at n text * 10 + (slice_index text n - 48) = omega (arith, small, is, at, low, high, value_is) in
    subst (λ m. (number * 10 % 18446744073709551616 + value) % 18446744073709551616 ≡ number_at m text) next step

-- a space follows a number
at_end : (n : ℕ) (text : List ℕ) → drop n text ≡ mark_end → (slice_index text n ≡ 32) × (n < length text)
at_end zero [] e = absurd (let no : 0 ≡ 32 = ap length e in omega (arith, no))
at_end zero (c ∷ text) e = (ap (λ xs. slice_index xs 0) e, omega arith)
at_end (suc n) [] e = absurd (let no : 0 ≡ 32 = ap length e in omega (arith, no))
at_end (suc n) (c ∷ text) e = let h = at_end n text e in (h.0, omega (arith, h.1))

-- the number of a mark ends with its digits
same_end : (a b : ℕ) (text : List ℕ) → a ≤ 19 → BeginsWithDigits a text → (a < 19 → EndsDigits a text) → b ≤ 19 → BeginsWithDigits b text → drop b text ≡ mark_end → a ≡ b
same_end a b text few digits ends few_b digits_b end =
    let space = at_end b text end in
    let not_less : a < b → ⊥ = λ less. ends (omega (arith, less, few_b)) (omega (arith, less, space.1)) (digits_b a less) in
    let not_more : b < a → ⊥ = λ more. let d = digits b more in omega (arith, d.0, space.0) in
    omega (arith, not_less, not_more)

drops : (n : ℕ) (text : List ℕ) → length (drop n text) ≤ length text
drops zero text = omega arith
drops (suc n) [] = omega arith
drops (suc n) (c ∷ text) = let h = drops n text in omega (arith, h)

drops_some : (n : ℕ) (text : List ℕ) → 1 ≤ n → n < length text → length (drop n text) < length text
drops_some zero text some less = absurd (omega (arith, some))
drops_some (suc n) [] some less = absurd (omega (arith, less))
drops_some (suc n) (c ∷ text) some less = let h = drops n text in omega (arith, h)

pub no_mark : (line : List ℕ) (first : ℕ) (text rest : List ℕ) (number : ℕ) → line ≡ first ∷ text
    → (n : ℕ) × (n ≤ 19) × BeginsWithDigits n text × (rest ≡ drop n text) × (number ≡ number_at n text) × (n < 19 → EndsDigits n text)
    → (first ≡ 91 → length rest < length text → rest ≡ mark_end → ⊥) → (count : ℕ) → IsMarkOf line count → ⊥
no_mark line first text rest number whole h never count m =
    let same : first ∷ text ≡ 91 ∷ m.0 = sym whole ∙ m.2 in
    let begins : first ≡ 91 = ap (λ xs. slice_index xs 0) same in
    let text_is : m.0 ≡ text = sym (ap (drop 1) same) in
    let digits : BeginsWithDigits m.1 text = subst (BeginsWithDigits m.1) text_is m.5 in
    let end : drop m.1 text ≡ mark_end = subst (λ t. drop m.1 t ≡ mark_end) text_is m.6 in
    let n_is : h.0 ≡ m.1 = same_end h.0 m.1 text h.1 h.2 h.5 m.4 digits end in
    let rest_is : rest ≡ mark_end = h.3 ∙ ap (λ n. drop n text) n_is ∙ end in
    let space = at_end m.1 text end in
    let shorter : length rest < length text = subst (λ xs. length xs < length text) (sym (h.3 ∙ ap (λ n. drop n text) n_is)) (drops_some m.1 text m.3 space.1) in
    never begins shorter rest_is

pub is_mark : (line : List ℕ) (first : ℕ) (text rest : List ℕ) (number : ℕ) → line ≡ first ∷ text → first ≡ 91
    → (n : ℕ) × (n ≤ 19) × BeginsWithDigits n text × (rest ≡ drop n text) × (number ≡ number_at n text) × (n < 19 → EndsDigits n text)
    → length rest < length text → rest ≡ mark_end → IsMarkOf line number
is_mark line first text rest number whole begins h shorter is = (
  text,
  h.0,
  whole ∙ ap (λ c. c ∷ text) begins,
  some_digits h.0 text (subst (λ r. length r < length text) h.3 shorter),
  h.1,
  h.2,
  sym h.3 ∙ is,
  h.4,
)
