-- Sorted and merged intervals: their numbers, and the gaps between them.
use Rattle.std.proofs.Common.{◌≡◌, ℕ, zero, suc, ◌+◌, ◌<◌, ◌≤◌, ◌^◌, List, [], ◌∷◌, length, get_or, filter, sum_by, Bool, true, false, ◌&&◌, ◌||◌, nat_lt, nat_le, if◌then◌else◌, Result, Ok, Err, IfOk, refl, sym, ap, ◌∙◌, arith}
use Rattle.std.specs.List.Sorted.{IsNonDecreasingBy, IsPermutation}
use Rattle.std.proofs.lemmas.Bool.{lt-ltb, lt-leb, ltb-true, ltb-false, leb-false, and_parts}
use Rattle.std.proofs.lemmas.Bool.Decides.{nat_tests}
use Rattle.std.proofs.lemmas.List.Sorted.{length_permutation, sum_by-IsPermutation}
use Rattle.std.proofs.lemmas.List.Sums.{sum_by-cons}
use Rattle.mysql_repl.specs.declared.gno_interval.GnoInterval.{GnoInterval}
use Rattle.mysql_repl.specs.GnoInterval.{start, end}
use Rattle.mysql_repl.specs.MergedIntervals.{has_number, any_has, has_any, are_apart_after, are_apart, NumbersFit, hull, merged_from, merged}
use Rattle.mysql_repl.specs.ServerSids.{are_after}

-- ---- empty intervals

empty-lacks : (n : ℕ) (i : GnoInterval) → has_any i ≡ false → has_number n i ≡ false
empty-lacks n i h = grind (arith, nat_tests)

by-any : (n : ℕ) (b : Bool) (i : GnoInterval) (is rest : List GnoInterval) → has_any i ≡ b → any_has n rest ≡ any_has n is
    → any_has n (if b then i ∷ rest else rest) ≡ any_has n (i ∷ is)
by-any n true i is rest h e = rw e refl
by-any n false i is rest h e = rw (empty-lacks n i h) e

pub some-same : (n : ℕ) (is : List GnoInterval) → any_has n (filter has_any is) ≡ any_has n is
some-same n [] = refl
some-same n (i ∷ is) = by-any n (has_any i) i is (filter has_any is) refl (some-same n is)

-- if none is left, all are empty
kept-some : (b : Bool) (i : GnoInterval) (rest : List GnoInterval) → b ≡ true → (if b then i ∷ rest else rest) ≡ [] → ⊥
kept-some true i rest h e = cc
kept-some false i rest h e = cc

dropped : (b : Bool) (i : GnoInterval) (rest : List GnoInterval) → (if b then i ∷ rest else rest) ≡ [] → rest ≡ []
dropped true i rest e = absurd cc
dropped false i rest e = e

pub some-left : (k : ℕ) (is : List GnoInterval) (d : GnoInterval) → k < length is → has_any (get_or is k d) ≡ true → filter has_any is ≡ [] → ⊥
some-left k [] d lt h none = omega (arith, lt)
some-left zero (i ∷ is) d lt h none = kept-some (has_any i) i (filter has_any is) h none
some-left (suc k) (i ∷ is) d lt h none = some-left k is d (omega (arith, lt)) h (dropped (has_any i) i (filter has_any is) none)

pub none-permuted : (xs ys : List GnoInterval) → IsPermutation xs ys → xs ≡ [] → ys ≡ []
none-permuted xs [] h none = refl
none-permuted xs (y ∷ ys) h none = absurd (omega (arith, length_permutation xs (y ∷ ys) h, ap length none))

abbrev AllSome : List GnoInterval → Type 0
AllSome [] = Unit {0}
AllSome (i ∷ is) = (start i < end i) × AllSome is

some-by : (b : Bool) (i : GnoInterval) (rest : List GnoInterval) → has_any i ≡ b → AllSome rest → AllSome (if b then i ∷ rest else rest)
some-by true i rest h k = (ltb-true _ _ h, k)
some-by false i rest h k = k

pub some-all : (is : List GnoInterval) → AllSome (filter has_any is)
some-all [] = tt
some-all (i ∷ is) = some-by (has_any i) i (filter has_any is) refl (some-all is)

-- ---- another order

abbrev one_if : Bool → ℕ
one_if true = 1
one_if false = 0

abbrev holders : ℕ → List GnoInterval → ℕ
holders n is = sum_by (λ i. one_if (has_number n i)) is

count-step : (b : Bool) (x : Bool) (k : ℕ) → x ≡ nat_lt 0 k → (b || x) ≡ nat_lt 0 (one_if b + k)
count-step true x k e = sym (lt-ltb 0 (1 + k) (omega arith))
count-step false x k e = e ∙ ap (nat_lt 0) (omega arith)

any-count : (n : ℕ) (is : List GnoInterval) → any_has n is ≡ nat_lt 0 (holders n is)
any-count n [] = refl
any-count n (i ∷ is) =
    count-step (has_number n i) (any_has n is) (holders n is) (any-count n is) ∙ ap (nat_lt 0) (sym (sum_by-cons (λ (j : GnoInterval). one_if (has_number n j)) i is))

pub permuted-same : (n : ℕ) (xs ys : List GnoInterval) → IsPermutation xs ys → any_has n ys ≡ any_has n xs
permuted-same n xs ys h =
    any-count n ys ∙ ap (nat_lt 0) (sum_by-IsPermutation (λ i. one_if (has_number n i)) xs ys h) ∙ sym (any-count n xs)

abbrev empty : GnoInterval → ℕ
empty i = one_if (nat_le (end i) (start i))

none-empty : (is : List GnoInterval) → AllSome is → sum_by empty is ≡ 0
none-empty [] h = refl
none-empty (i ∷ is) h =
    sum_by-cons empty i is ∙ ap (λ (k : ℕ). empty i + k) (none-empty is h.1) ∙ rw (lt-leb (end i) (start i) h.0) refl

first-some : (b : Bool) (i : GnoInterval) (k : ℕ) → nat_le (end i) (start i) ≡ b → one_if b + k ≡ 0 → (start i < end i) × (k ≡ 0)
first-some true i k h e = absurd (omega (arith, e))
first-some false i k h e = (leb-false _ _ h, omega (arith, e))

all-some : (is : List GnoInterval) → sum_by empty is ≡ 0 → AllSome is
all-some [] h = tt
all-some (i ∷ is) h =
    let f = first-some (nat_le (end i) (start i)) i (sum_by empty is) refl (sym (sum_by-cons empty i is) ∙ h) in (f.0, all-some is f.1)

permuted-some : (xs ys : List GnoInterval) → IsPermutation xs ys → AllSome xs → AllSome ys
permuted-some xs ys h k = all-some ys (sum_by-IsPermutation empty xs ys h ∙ none-empty xs k)

-- ---- in order

abbrev FromOn : ℕ → List GnoInterval → Type 0
FromOn s [] = Unit {0}
FromOn s (i ∷ is) = (s ≤ start i) × FromOn s is

abbrev InOrder : List GnoInterval → Type 0
InOrder [] = Unit {0}
InOrder (i ∷ is) = FromOn (start i) is × InOrder is

from-on : (s : ℕ) (is : List GnoInterval) → ((k : ℕ) (d : GnoInterval) → k < length is → s ≤ start (get_or is k d)) → FromOn s is
from-on s [] h = tt
from-on s (i ∷ is) h = (h 0 i (omega arith), from-on s is (λ k d lt. h (suc k) d (omega (arith, lt))))

in-order : (is : List GnoInterval) → IsNonDecreasingBy start is → InOrder is
in-order [] h = tt
in-order (i ∷ is) h = (
  from-on (start i) is (λ k d lt. h 0 (suc k) d (omega arith) (omega (arith, lt))),
  in-order is (λ a b d le lt. h (suc a) (suc b) d (omega (arith, le)) (omega (arith, lt))),
)

-- ---- the same numbers

or-assoc : (a b c : Bool) → ((a || b) || c) ≡ (a || (b || c))
or-assoc true b c = refl
or-assoc false b c = refl

hull-number : (n : ℕ) (p i : GnoInterval) → start p ≤ start i → start i ≤ end p → has_number n (hull p i) ≡ (has_number n p || has_number n i)
hull-number n p i le touch = grind (arith, nat_tests)

same-step : (n : ℕ) (b : Bool) (p i : GnoInterval) (is : List GnoInterval) → nat_lt (end p) (start i) ≡ b → start p ≤ start i → any_has n (merged_from i is) ≡ any_has n (i ∷ is)
    → any_has n (merged_from (hull p i) is) ≡ any_has n (hull p i ∷ is) → any_has n (if b then p ∷ merged_from i is else merged_from (hull p i) is) ≡ any_has n (p ∷ i ∷ is)
same-step n true p i is h le e f = ap (λ (x : Bool). has_number n p || x) e
same-step n false p i is h le e f =
    f ∙ ap (λ (x : Bool). x || any_has n is) (hull-number n p i le (ltb-false _ _ h)) ∙ or-assoc (has_number n p) (has_number n i) (any_has n is)

merge-same : (n : ℕ) (p : GnoInterval) (is : List GnoInterval) → InOrder (p ∷ is) → any_has n (merged_from p is) ≡ any_has n (p ∷ is)
merge-same n p [] h = refl
merge-same n p (i ∷ is) h =
    same-step n (nat_lt (end p) (start i)) p i is refl h.0.0 (merge-same n i is h.1) (merge-same n (hull p i) is (h.0.1, h.1.1))

merged-same : (n : ℕ) (is : List GnoInterval) → InOrder is → any_has n (merged is) ≡ any_has n is
merged-same n [] h = refl
merged-same n (i ∷ is) h = merge-same n i is h

-- ---- gaps

record Shape (p : GnoInterval) (list : List GnoInterval) : Type 0 where
  pub first : GnoInterval
  pub rest : List GnoInterval
  pub is : list ≡ first ∷ rest
  pub starts : start first ≡ start p
  pub some : start first < end first
  pub apart : are_apart_after (end first) rest ≡ true

after-shape : (last : ℕ) (p : GnoInterval) (list : List GnoInterval) → last < start p → Shape p list → are_apart_after last list ≡ true
after-shape last p list lt s = rw (s.is, lt-ltb last (start s.first) (omega (arith, lt, s.starts)), lt-ltb (start s.first) (end s.first) s.some) s.apart

shape-step : (b : Bool) (p i : GnoInterval) (is : List GnoInterval) → nat_lt (end p) (start i) ≡ b → start p < end p → Shape i (merged_from i is) → Shape (hull p i) (merged_from (hull p i) is)
    → Shape p (if b then p ∷ merged_from i is else merged_from (hull p i) is)
shape-step true p i is h some s t =
    record { first = p; rest = merged_from i is; is = refl; starts = refl; some = some; apart = after-shape (end p) i (merged_from i is) (ltb-true _ _ h) s }
shape-step false p i is h some s t = record { first = t.first; rest = t.rest; is = t.is; starts = t.starts; some = t.some; apart = t.apart }

hull-some : (p i : GnoInterval) → start p < end p → start (hull p i) < end (hull p i)
hull-some p i h = omega (arith, h)

shape : (p : GnoInterval) (is : List GnoInterval) → AllSome (p ∷ is) → Shape p (merged_from p is)
shape p [] h = record { first = p; rest = []; is = refl; starts = refl; some = h.0; apart = refl }
shape p (i ∷ is) h = shape-step (nat_lt (end p) (start i)) p i is refl h.0 (shape i is h.1) (shape (hull p i) is (hull-some p i h.0, h.1.1))

merged-apart : (is : List GnoInterval) → AllSome is → are_apart (merged is) ≡ true
merged-apart [] h = refl
merged-apart (i ∷ is) h =
    let s = shape i is h in
    rw (s.is, lt-ltb (start s.first) (end s.first) s.some) s.apart

-- ---- all of it

pub put-same : (n : ℕ) (is sorted : List GnoInterval) → IsPermutation (filter has_any is) sorted → IsNonDecreasingBy start sorted → any_has n (merged sorted) ≡ any_has n is
put-same n is sorted h k = merged-same n sorted (in-order sorted k) ∙ permuted-same n (filter has_any is) sorted h ∙ some-same n is

pub put-apart : (is sorted : List GnoInterval) → IsPermutation (filter has_any is) sorted → are_apart (merged sorted) ≡ true
put-apart is sorted h = merged-apart sorted (permuted-some (filter has_any is) sorted h (some-all is))

pub over-ok : {T E : Type 0} (r : Result T E) (P Q : T → Type 0) → ((x : T) → P x → Q x) → IfOk r P → IfOk r Q
over-ok (Ok x) P Q f h = f x h
over-ok (Err e) P Q f h = tt

-- ---- canonical form

apart-after : (last : ℕ) (is : List GnoInterval) → are_apart_after last is ≡ true → NumbersFit is → are_after last is ≡ true
apart-after last [] h k = refl
apart-after last (i ∷ is) h k =
    let p = and_parts (nat_lt last (start i)) (has_any i && are_apart_after (end i) is) h in
    let q = and_parts (has_any i) (are_apart_after (end i) is) p.1 in
    rw (p.0, q.0, lt-ltb (end i) (2 ^ 63) k.1) (apart-after (end i) is q.1 k.2)

pub apart-servers : (is : List GnoInterval) → are_apart is ≡ true → NumbersFit is → are_after 0 is ≡ true
apart-servers [] h k = refl
apart-servers (i ∷ is) h k =
    let q = and_parts (has_any i) (are_apart_after (end i) is) h in
    rw (lt-ltb 0 (start i) k.0, q.0, lt-ltb (end i) (2 ^ 63) k.1) (apart-after (end i) is q.1 k.2)
