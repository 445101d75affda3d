-- Places of a list, and sums of rows.
use Rattle.std.proofs.Common.{◌≡◌, ℕ, zero, suc, ◌+◌, List, [], ◌∷◌, ◌++◌, ◌<◌, length, take, drop, get_or, Some, refl, sym, ap, subst, ◌∙◌, arith}
use Rattle.std.specs.List.{slice_get}
use Rattle.std.specs.Borrow.{Bor}
use Rattle.std.proofs.lemmas.List.{drop-drop, take_more}
use Rattle.examples_proved.specs.Report.{HasNumber, SumsTo}

pub drop-next : {X : Type 0} (xs ys : List X) (i : ℕ) (x : X) → drop i xs ≡ x ∷ ys → drop (i + 1) xs ≡ ys
drop-next xs ys i x e = sym (drop-drop 1 i xs) ∙ ap (drop 1) e

pub get-drop : {X : Type 0} (xs ys : List X) (i : ℕ) (x : X) → drop i xs ≡ x ∷ ys → slice_get xs i ≡ Some x
get-drop [] ys zero x e = absurd cc
get-drop [] ys (suc i) x e = absurd cc
get-drop (z ∷ xs) ys zero x e = cc
get-drop (z ∷ xs) ys (suc i) x e = get-drop xs ys i x e

pub ruleset places = (drop-next, get-drop)

-- a row more
pub one-more : (columns place : ℕ) (rows : List (Bor (List ℕ))) (row : Bor (List ℕ)) (total n : ℕ) → SumsTo columns place rows total → HasNumber columns place row.now n
    → SumsTo columns place (rows ++ row ∷ []) (total + n)
one-more columns place [] row total n s h = (n, 0, h, refl, omega (arith, s))
one-more columns place (r ∷ rows) row total n s h = (s.0, s.1 + n, s.2, one-more columns place rows row s.1 n s.3 h, omega (arith, s.4))

pub sums-next : (columns place : ℕ) (rows : List (Bor (List ℕ))) (i total n next : ℕ) (d : Bor (List ℕ)) → i < length rows → SumsTo columns place (take i rows) total
    → HasNumber columns place (get_or rows i d).now n → next ≡ total + n → SumsTo columns place (take (i + 1) rows) next
sums-next columns place rows i total n next d lt s h e =
    let more = one-more columns place (take i rows) (get_or rows i d) total n s h in
    let there : SumsTo columns place (take (i + 1) rows) (total + n) = subst (λ l. SumsTo columns place l (total + n)) (sym (take_more rows i d lt)) more in
    subst (SumsTo columns place (take (i + 1) rows)) (sym e) there
