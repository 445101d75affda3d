-- Types of columns as text.
use Rattle.std.proofs.Common.{◌≡◌, ◌&&◌, List, [], ◌∷◌, Option, Some, None, is_some, refl}
use Rattle.std.specs.List.{list_all}
use Rattle.mysql_program.specs.RowText.{each, with_first}

with_first_is_some : {B : Type 0} (x : Option B) (xs : Option (List B)) → is_some (with_first x xs) ≡ (is_some x && is_some xs)
with_first_is_some (Some y) (Some ys) = refl
with_first_is_some (Some y) None = refl
with_first_is_some None xs = refl

-- all are converted exactly if each is
pub each_is_some : {A B : Type 0} (f : A → Option B) (xs : List A) → is_some (each f xs) ≡ list_all (λ x. is_some (f x)) xs
each_is_some f [] = refl
each_is_some f (x ∷ xs) = rw (with_first_is_some (f x) (each f xs), each_is_some f xs) refl
