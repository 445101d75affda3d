-- Bytes that are combined one by one.
use Rattle.std.proofs.Common.{◌≡◌, ◌<◌, ◌+◌, ◌++◌, ℕ, zero, suc, List, [], ◌∷◌, length, take, drop, slice_set, get_or, refl, ap, ◌∙◌, arith}
use Rattle.std.specs.Int.Bits.{bit_xor}
use Rattle.std.proofs.lemmas.List.{append-nil, drop_all, take_all}
use Rattle.mysql_packets_c.specs.Scramble.{mixed}

-- the first ones are combined
abbrev pub mixed_to : ℕ → List ℕ → List ℕ → List ℕ
mixed_to n xs ys = mixed (take n xs) (take n ys) ++ drop n xs

one-more : (n : ℕ) (xs ys : List ℕ) (d : ℕ) → n < length xs → n < length ys
    → slice_set (mixed_to n xs ys) n (bit_xor (get_or xs n d) (get_or ys n d)) ≡ mixed_to (suc n) xs ys
one-more n [] ys d h k = absurd (omega (arith, h))
one-more n (x ∷ xs) [] d h k = absurd (omega (arith, k))
one-more zero (x ∷ xs) (y ∷ ys) d h k = refl
one-more (suc n) (x ∷ xs) (y ∷ ys) d h k = ap (λ l. bit_xor x y ∷ l) (one-more n xs ys d (omega (arith, h)) (omega (arith, k)))

pub mixed-step : (n : ℕ) (xs ys bytes : List ℕ) (d : ℕ) → n < length xs → n < length ys → bytes ≡ mixed_to n xs ys
    → slice_set bytes n (bit_xor (get_or xs n d) (get_or ys n d)) ≡ mixed_to (n + 1) xs ys
mixed-step n xs ys bytes d h k e =
    let next : suc n ≡ n + 1 = omega arith in
    ap (λ b. slice_set b n (bit_xor (get_or xs n d) (get_or ys n d))) e ∙ one-more n xs ys d h k ∙ ap (λ m. mixed_to m xs ys) next

pub mixed-all : (n : ℕ) (xs ys : List ℕ) → length xs ≡ n → length ys ≡ n → mixed_to n xs ys ≡ mixed xs ys
mixed-all n xs ys h k =
    let x = take_all n xs (omega (arith, h)) in
    let y = take_all n ys (omega (arith, k)) in
    rw (x, y, drop_all n xs (omega (arith, h)), append-nil) refl

pub ruleset mixing = (mixed-step, mixed-all)
