-- The header before each frame.
use Rattle.std.specs.Prelude.{ℕ, ◌+◌, ◌*◌, List, [], ◌∷◌}

-- the length in a header
abbrev pub length_in : List ℕ → ℕ
length_in (a ∷ b ∷ c ∷ rest) = a + 256 * b + 65536 * c
length_in (a ∷ b ∷ []) = 0
length_in (a ∷ []) = 0
length_in [] = 0
