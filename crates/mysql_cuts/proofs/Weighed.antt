-- The cuts of rows are the cuts of their weights.
use Rattle.std.proofs.Common.{◌≡◌, ℕ, ◌+◌, Bool, true, List, [], ◌∷◌, ◌++◌, length, map, take, drop, refl, sym, ◌∙◌, ap, subst, arith}
use Rattle.std.proofs.lemmas.List.{map-append, length-map, take-map, drop-map, take-append-drop, take_at, drop_at}
use Rattle.std.proofs.lemmas.List.Sums.{sum-map}
use Rattle.mysql_cuts.specs.Fewest.{weighed}
use Rattle.mysql_cuts.specs.Cut.{Packing, WithinRows, PartFits, FitsFrom, rows_in, NoneEmpty, IsFewest, ends_after}

module _ {X : Type 0} (k : Packing X) where
  fits_to : (types : Bool) (part : List X) → PartFits k types part → PartFits (weighed k) types (map k.weight part)
  fits_to types part f =
      let W : ℕ → Type 0 = WithinRows k.max_rows in
      (omega (arith, f.0, sum-map k.weight part), subst W (sym (length-map part k.weight)) f.1)

  fits_from : (types : Bool) (part : List X) → PartFits (weighed k) types (map k.weight part) → PartFits k types part
  fits_from types part f =
      let W : ℕ → Type 0 = WithinRows k.max_rows in
      (omega (arith, f.0, sum-map k.weight part), subst W (length-map part k.weight) f.1)

  abbrev pub weigh : List (List X) → List (List ℕ)
  weigh parts = map (map k.weight) parts

  all_to : (types : Bool) (parts : List (List X)) → FitsFrom k types parts → FitsFrom (weighed k) types (weigh parts)
  all_to types [] f = tt
  all_to types (part ∷ parts) f = (fits_to types part f.0, all_to k.types_always parts f.1)

  all_from : (types : Bool) (parts : List (List X)) → FitsFrom (weighed k) types (weigh parts) → FitsFrom k types parts
  all_from types [] f = tt
  all_from types (part ∷ parts) f = (fits_from types part f.0, all_from k.types_always parts f.1)

  none_to : (parts : List (List X)) → NoneEmpty parts → NoneEmpty (weigh parts)
  none_to [] m = tt
  none_to ([] ∷ parts) m = absurd (m.0 refl)
  none_to ((x ∷ part) ∷ parts) m = (λ e. cc, none_to parts m.1)

  none_from : (parts : List (List X)) → NoneEmpty (weigh parts) → NoneEmpty parts
  none_from [] m = tt
  none_from ([] ∷ parts) m = absurd (m.0 refl)
  none_from ((x ∷ part) ∷ parts) m = (λ e. cc, none_from parts m.1)

  joined_to : (parts : List (List X)) → rows_in (weigh parts) ≡ map k.weight (rows_in parts)
  joined_to [] = refl
  joined_to (part ∷ parts) = ap (λ (l : List ℕ). map k.weight part ++ l) (joined_to parts) ∙ sym (map-append k.weight part (rows_in parts))

  -- a cut of the weights is that of a cut of the rows
  lift : (others : List (List ℕ)) (rows : List X) → rows_in others ≡ map k.weight rows → (parts : List (List X)) × (weigh parts ≡ others) × (rows_in parts ≡ rows)
  lift [] [] e = ([], refl, refl)
  lift [] (x ∷ rows) e = cc
  lift (part ∷ others) rows e =
      let front : map k.weight (take (length part) rows) ≡ part = sym (take-map k.weight (length part) rows) ∙ ap (take (length part)) (sym e) ∙ take_at part (rows_in others) (length part) refl in
      let back : rows_in others ≡ map k.weight (drop (length part) rows) = sym (drop_at part (rows_in others) (length part) refl) ∙ ap (drop (length part)) e ∙ drop-map k.weight (length part) rows in
      let more = lift others (drop (length part) rows) back in (
        take (length part) rows ∷ more.0,
        ap (λ (l : List ℕ). l ∷ weigh more.0) front ∙ ap (λ (l : List (List ℕ)). part ∷ l) more.1,
        ap (λ (l : List X). take (length part) rows ++ l) more.2 ∙ take-append-drop (length part) rows,
      )

  pub ends_to : (n : ℕ) (parts : List (List X)) → ends_after n parts ≡ ends_after n (weigh parts)
  ends_to n [] = refl
  ends_to n (part ∷ parts) =
      let same : n + length part ≡ n + length (map k.weight part) = ap (λ m. n + m) (sym (length-map part k.weight)) in
      ap (λ (l : List ℕ). (n + length part) ∷ l) (ends_to (n + length part) parts) ∙ ap (λ m. m ∷ ends_after m (weigh parts)) same

  length_to : (parts : List (List X)) → length (weigh parts) ≡ length parts
  length_to parts = length-map parts (map k.weight)

  -- a fewest cut is fewest by the weights
  pub fewest_weighed : (rows : List X) (parts : List (List X)) → IsFewest k rows parts → IsFewest (weighed k) (map k.weight rows) (weigh parts)
  fewest_weighed rows parts f = (
    ((none_to parts f.0.0.0, joined_to parts ∙ ap (map k.weight) f.0.0.1), all_to true parts f.0.1),
    λ others c.
        let l = lift others rows c.0.1 in
        let N : List (List ℕ) → Type 0 = NoneEmpty in
        let F : List (List ℕ) → Type 0 = FitsFrom (weighed k) true in
        let less = f.1 l.0 ((none_from l.0 (subst N (sym l.1) c.0.0), l.2), all_from true l.0 (subst F (sym l.1) c.1)) in
        omega (arith, less, length_to parts, length_to l.0, ap length l.1),
  )
