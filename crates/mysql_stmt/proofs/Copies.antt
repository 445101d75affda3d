-- A copy of a row's values has the same contents.
use Rattle.std.proofs.Common.{◌≡◌, List, [], ◌∷◌, Option, Some, None, refl}
use Rattle.std.specs.List.{AllZip}
use Rattle.mysql_values.specs.declared.value.Value.{Value}
use Rattle.mysql_values.specs.Value.{content_of}
use Rattle.mysql_values.specs.Cells.{held}

module _ (R : Option Value → Option Value → Type 0) (lost : (x : Value) → R (Some x) None → ⊥) (made : (y : Value) → R None (Some y) → ⊥) (same : (x y : Value) → R (Some x) (Some y) → content_of y ≡ content_of x) where
  -- each value and its copy have the same content
  pub held-copied : (xs ys : List (Option Value)) → AllZip R xs ys → held ys ≡ held xs
  held-copied [] [] h = refl
  held-copied [] (y ∷ ys) h = absurd h
  held-copied (x ∷ xs) [] h = absurd h
  held-copied (None ∷ xs) (None ∷ ys) h = rw (held-copied xs ys h.1) refl
  held-copied (None ∷ xs) (Some y ∷ ys) h = absurd (made y h.0)
  held-copied (Some x ∷ xs) (None ∷ ys) h = absurd (lost x h.0)
  held-copied (Some x ∷ xs) (Some y ∷ ys) h = rw (same x y h.0, held-copied xs ys h.1) refl
