-- Rows compare equal exactly if their values have the same contents and their columns are equal.
use Rattle.std.proofs.Common.{◌≡◌, ◌↔◌, IsTrue, Decides, List, [], ◌∷◌, Option, Some, None, refl, sym, ap, ◌∙◌}
use Rattle.std.proofs.lemmas.Bool.Decides.{Decides-and}
use Rattle.std.proofs.lemmas.Slice.Eq.{slice_eq-Decides}
use Rattle.std.specs.Cmp.Lexicographic.{pointwise}
use Rattle.std.specs.Option.{option_eq, option_map}
use Rattle.mysql_replies.proofs.EqualColumns.{columns-same}
use Rattle.mysql_values.specs.declared.value.Value.{Value}
use Rattle.mysql_values.specs.Cells.{held}
use Rattle.mysql_values.specs.ContentEq.{content_eq}
use Rattle.mysql_values.specs.Value.{content_of}
use Rattle.mysql_values.proofs.ContentEq.{equal-same}
use Rattle.mysql_values.proofs.ValueEq.{same_content}
use Rattle.mysql_stmt.specs.contracts.row.RowPartialEq.TheImpl as derived_row
use Rattle.mysql_stmt.specs.Row.{Cells}

value-same : (a b : Value) → Decides (content_eq (content_of a) (content_of b)) (content_of a ≡ content_of b)
value-same a b = (λ e. (equal-same a b).0 (same_content a b ∙ e), λ e. sym (same_content a b) ∙ (equal-same a b).1 e)

cell-same : (x y : Option Value) → Decides (option_eq content_eq (option_map content_of x) (option_map content_of y)) (option_map content_of x ≡ option_map content_of y)
cell-same None None = (λ e. refl, λ e. refl)
cell-same None (Some b) = (λ e. absurd cc, λ e. absurd cc)
cell-same (Some a) None = (λ e. absurd cc, λ e. absurd cc)
cell-same (Some a) (Some b) = (λ e. ap Some ((value-same a b).0 e), λ e. (value-same a b).1 (let h : content_of a ≡ content_of b = cc in h))

cells-same : (xs ys : List (Option Value)) → Decides (pointwise (option_eq content_eq) (held xs) (held ys)) (held xs ≡ held ys)
cells-same [] [] = (λ e. refl, λ e. refl)
cells-same [] (y ∷ ys) = (λ e. absurd cc, λ e. absurd cc)
cells-same (x ∷ xs) [] = (λ e. absurd cc, λ e. absurd cc)
cells-same (x ∷ xs) (y ∷ ys) =
    let both = Decides-and _ _ (cell-same x y) (cells-same xs ys) in
    (λ e. let s = both.0 e in λ i. s.0 i ∷ s.1 i, λ e. both.1 (let head : option_map content_of x ≡ option_map content_of y = cc in head, let rest : held xs ≡ held ys = cc in rest))

pub rows-same : (a b : Cells) → IsTrue (derived_row.ghosts.eq a b) ↔ ((held a.cells ≡ held b.cells) × (a.columns ≡ b.columns))
rows-same a b = Decides-and _ _ (cells-same a.cells b.cells) (slice_eq-Decides columns-same a.columns b.columns _ refl)

pub ruleset equal_rows = (rows-same)
