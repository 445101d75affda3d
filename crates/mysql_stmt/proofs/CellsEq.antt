-- Cells compare equal if their contents are equal.
use Rattle.std.proofs.Common.{◌≡◌, ◌&&◌, List, [], ◌∷◌, Option, Some, None, refl}
use Rattle.std.specs.Option.{option_eq, option_map}
use Rattle.std.specs.Cmp.Lexicographic.{pointwise}
use Rattle.mysql_values.specs.declared.value.Value.{Value}
use Rattle.mysql_values.specs.contracts.value.ValuePartialEq.TheImpl as value
use Rattle.mysql_values.specs.Value.{content_of}
use Rattle.mysql_values.specs.ContentEq.{content_eq}
use Rattle.mysql_values.proofs.ValueEq.{same_content}
use Rattle.mysql_values.specs.Cells.{held}

same_cell : (x y : Option Value) → option_eq value.ghosts.eq x y ≡ option_eq content_eq (option_map content_of x) (option_map content_of y)
same_cell None None = refl
same_cell None (Some y) = refl
same_cell (Some x) None = refl
same_cell (Some x) (Some y) = same_content x y

pub same_cells : (xs ys : List (Option Value)) → pointwise (option_eq value.ghosts.eq) xs ys ≡ pointwise (option_eq content_eq) (held xs) (held ys)
same_cells [] [] = refl
same_cells [] (y ∷ ys) = refl
same_cells (x ∷ xs) [] = refl
same_cells (x ∷ xs) (y ∷ ys) = λ i. same_cell x y i && same_cells xs ys i
