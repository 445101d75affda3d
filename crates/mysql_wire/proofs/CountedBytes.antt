-- The count of a written content fits.
use Rattle.std.proofs.Common.{ℕ, ◌≤◌, List, length, take, arith}
use Rattle.std.proofs.lemmas.List.{length-take}

pub length-cut : {X : Type 0} (n : ℕ) (xs : List X) → length (take n xs) ≤ n
length-cut n xs = omega (arith, length-take n xs)

pub ruleset cuts = (length-cut)
