-- A fitting cut that is full from the front is a fewest one.
use Rattle.std.proofs.Common.{◌≡◌, ℕ, zero, suc, ◌<◌, ◌≤◌, List, [], ◌∷◌, length, take, refl, sym, ◌∙◌, ap, subst, inl, inr, arith, length-append}
use Rattle.std.proofs.lemmas.Bool.{cases_lt}
use Rattle.std.proofs.lemmas.List.{take_all}
use Rattle.mysql_cuts.specs.Cut.{Packing, rows_in, NoneEmpty, rows_in_first, IsFittingCut, IsFewest, IsFullFromFront}

module _ {X : Type 0} where
  -- fewer parts hold fewer rows
  fewer_rows : (parts : List (List X)) (n : ℕ) → NoneEmpty parts → n < length parts → rows_in_first n parts < length (rows_in parts)
  fewer_rows [] n m h = absurd (omega arith)
  fewer_rows ([] ∷ parts) n m h = absurd (m.0 refl)
  fewer_rows ((x ∷ p) ∷ parts) zero m h = omega (arith, length-append p (rows_in parts))
  fewer_rows ((x ∷ p) ∷ parts) (suc n) m h =
      let less = fewer_rows parts n m.1 (omega arith) in
      omega (arith, less, length-append p (rows_in parts), length-append p (rows_in (take n parts)))

  pub full_fewest : (k : Packing X) (rows : List X) (cut : List (List X)) → IsFittingCut k rows cut → IsFullFromFront k rows cut → IsFewest k rows cut
  full_fewest k rows cut f full = (
    f,
    λ others c. elim (cases_lt (length others) (length cut)) [
      | inl less ↦
          let P : List X → Type 0 = λ l. IsFittingCut k l others in
          let all : take (length rows) rows ≡ rows = take_all (length rows) rows (omega arith) in
          let ahead = full (length others) (omega arith) (length rows) others (subst P (sym all) c) in
          let whole : length (rows_in (take (length others) others)) ≡ length rows = ap (λ (l : List (List X)). length (rows_in l)) (take_all (length others) others (omega arith)) ∙ ap length c.0.1 in
          let fewer = fewer_rows cut (length others) f.0.0 less in
          absurd (omega (arith, ahead, whole, fewer, ap length f.0.1))
      | inr more ↦ more
    ],
  )
