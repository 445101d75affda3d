-- Runs over two lists in turn, and the unique state after a list.
use Rattle.std.proofs.Common.{◌≡◌, List, [], ◌∷◌, ◌++◌, refl, sym, ◌∙◌, subst}
use Rattle.mysql_conversation.specs.Runs.{Runs}

module _ {S X : Type 0} (step : S → X → S → Type 0) where
  pub join : (s : S) (xs : List X) (m : S) (ys : List X) (t : S) → Runs step s xs m → Runs step m ys t → Runs step s (xs ++ ys) t
  join s [] m ys t a b = subst (λ s. Runs step s ys t) (sym a) b
  join s (x ∷ xs) m ys t a b = (a.0, a.1, join a.0 xs m ys t a.2 b)

  pub part : (s : S) (xs ys : List X) (t : S) → Runs step s (xs ++ ys) t → (m : S) × Runs step s xs m × Runs step m ys t
  part s [] ys t r = (s, refl, r)
  part s (x ∷ xs) ys t r = let h = part r.0 xs ys t r.2 in (h.0, (r.0, r.1, h.1), h.2)

  -- if a step leads to one state
  pub once : ((s : S) (x : X) (m n : S) → step s x m → step s x n → m ≡ n) → (s : S) (xs : List X) (t u : S) → Runs step s xs t → Runs step s xs u → t ≡ u
  once one s [] t u a b = sym a ∙ b
  once one s (x ∷ xs) t u a b = once one b.0 xs t u (subst (λ m. Runs step m xs t) (one s x a.0 b.0 a.1 b.1) a.2) b.2
