-- Rows as text.
use Rattle.std.proofs.Common.{◌≡◌, ℕ, ◌+◌, ◌-◌, List, [], ◌∷◌, ◌++◌, length, get_or, drop, Option, Some, None, nat_eq, refl, arith}
use Rattle.std.proofs.lemmas.Grind.{common_steps}
use Rattle.std.proofs.lemmas.List.{drop_more}
use Rattle.std.proofs.Math.ListN.{drop_of_length-le}
use Rattle.std.specs.Cmp.Lexicographic.{pointwise}
use Rattle.std.specs.Io.BufRead.{ends_with_byte}

-- whether the last byte is c
pub last_byte : (c : ℕ) (xs : List ℕ) → pointwise nat_eq (drop (length xs - 1) xs) (c ∷ []) ≡ ends_with_byte c xs
last_byte c [] = refl
last_byte c (x ∷ xs) =
    let w : List ℕ = x ∷ xs in
    let i : ℕ = length w - 1 in
    let e : drop i w ≡ get_or w i 0 ∷ drop (i + 1) w = drop_more w i 0 (omega arith) in
    let n : drop (i + 1) w ≡ [] = drop_of_length-le w (omega arith) in
    rw (e, n) (grind (arith, common_steps))

pub ruleset feeds = (last_byte)

-- these, followed by the result for the rest
abbrev pub prepended : {B : Type 0} → List B → Option (List B) → Option (List B)
prepended xs None = None
prepended xs (Some ys) = Some (xs ++ ys)

pub prepended_none : {B : Type 0} (ys : Option (List B)) → prepended [] ys ≡ ys
prepended_none None = refl
prepended_none (Some ys) = refl
