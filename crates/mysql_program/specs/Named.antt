-- Names among the words.
use Rattle.std.specs.Prelude.{ℕ, List, Bool, nat_eq}
use Rattle.std.specs.Cmp.Lexicographic.{pointwise}

abbrev pub is_named : List ℕ → List ℕ → Bool
is_named word name = pointwise nat_eq word name
