-- Merging intervals keeps their numbers in range, so the result is canonical.
use Rattle.std.proofs.Common.{◌≡◌, ℕ, ◌+◌, ◌-◌, ◌<◌, ◌≤◌, ◌^◌, List, [], ◌∷◌, Bool, true, false, ◌&&◌, ◌||◌, nat_lt, nat_le, refl, sym, ◌∙◌, arith}
use Rattle.std.proofs.lemmas.Bool.{and_parts, ltb-true, leb-true, lt-ltb, le-leb, or_left, or_right}
use Rattle.mysql_repl.specs.declared.gno_interval.GnoInterval.{GnoInterval}
use Rattle.mysql_repl.specs.GnoInterval.{start, end}
use Rattle.mysql_repl.specs.MergedIntervals.{has_number, any_has, has_any, are_apart_after, are_apart, NumbersFit}

-- a number in fitting intervals is from 1 to 2^63 - 2
number-by : (n : ℕ) (b : Bool) (i : GnoInterval) (is : List GnoInterval) → has_number n i ≡ b → NumbersFit (i ∷ is)
    → (any_has n is ≡ true → (0 < n) × (n + 1 < 2 ^ 63)) → (b || any_has n is) ≡ true → (0 < n) × (n + 1 < 2 ^ 63)
number-by n true i is e fit more h =
    let t = and_parts (nat_le (start i) n) (nat_lt n (end i)) e in
    let low : start i ≤ n = leb-true _ _ t.0 in
    let high : n < end i = ltb-true _ _ t.1 in
    (omega (arith, low, fit.0), omega (arith, high, fit.1))
number-by n false i is e fit more h = more h

number-fits : (n : ℕ) (is : List GnoInterval) → NumbersFit is → any_has n is ≡ true → (0 < n) × (n + 1 < 2 ^ 63)
number-fits n [] fit h = absurd cc
number-fits n (i ∷ is) fit h = number-by n (has_number n i) i is refl fit (λ g. number-fits n is (fit.2) g) h

-- so nonempty intervals of only these numbers fit
first-has : (i : GnoInterval) → start i < end i → has_number (start i) i ≡ true
first-has i h = rw (le-leb (start i) (start i) (omega arith), lt-ltb (start i) (end i) h) refl

last-has : (i : GnoInterval) → start i < end i → has_number (end i - 1) i ≡ true
last-has i h = rw (le-leb (start i) (end i - 1) (omega (arith, h)), lt-ltb (end i - 1) (end i) (omega (arith, h))) refl

pub fits-after : (last : ℕ) (ms is : List GnoInterval) → NumbersFit is → are_apart_after last ms ≡ true
    → ((n : ℕ) → any_has n ms ≡ true → any_has n is ≡ true) → NumbersFit ms
fits-after last [] is fit apart same = tt
fits-after last (i ∷ ms) is fit apart same =
    let t = and_parts (nat_lt last (start i)) (has_any i && are_apart_after (end i) ms) apart in
    let u = and_parts (has_any i) (are_apart_after (end i) ms) t.1 in
    let some : start i < end i = ltb-true _ _ u.0 in
    let low = number-fits (start i) is fit (same (start i) (or_left (has_number (start i) i) (any_has (start i) ms) (first-has i some))) in
    let high = number-fits (end i - 1) is fit (same (end i - 1) (or_left (has_number (end i - 1) i) (any_has (end i - 1) ms) (last-has i some))) in
    (low.0, omega (arith, high.1, some), fits-after (end i) ms is fit u.1 (λ n h. same n (or_right (has_number n i) (any_has n ms) h)))

pub fits-merged : (ms is : List GnoInterval) → NumbersFit is → are_apart ms ≡ true → ((n : ℕ) → any_has n ms ≡ any_has n is) → NumbersFit ms
fits-merged [] is fit apart same = tt
fits-merged (i ∷ ms) is fit apart same =
    let u = and_parts (has_any i) (are_apart_after (end i) ms) apart in
    let some : start i < end i = ltb-true _ _ u.0 in
    let low = number-fits (start i) is fit (sym (same (start i)) ∙ or_left (has_number (start i) i) (any_has (start i) ms) (first-has i some)) in
    let high = number-fits (end i - 1) is fit (sym (same (end i - 1)) ∙ or_left (has_number (end i - 1) i) (any_has (end i - 1) ms) (last-has i some)) in
    (low.0, omega (arith, high.1, some), fits-after (end i) ms is fit u.1 (λ n h. sym (same n) ∙ or_right (has_number n i) (any_has n ms) h))
