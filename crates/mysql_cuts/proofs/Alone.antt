-- A fitting cut exists exactly if each row fits alone at its place.
use Rattle.std.proofs.Common.{◌≡◌, ◌↔◌, Bool, true, false, List, [], ◌∷◌, ◌++◌, refl, sym, ap, subst, arith}
use Rattle.mysql_cuts.specs.Cut.{Packing, PartFits, FitsFrom, rows_in, NoneEmpty, HasFittingCut, RowsFitAlone}
use Rattle.mysql_cuts.proofs.Packed.{PartFits-back, PartFits-front}

module _ {X : Type 0} (k : Packing X) where
  -- a row that fits with types fits at a later place too
  later_fits : (always : Bool) (part : List X) → k.types_always ≡ always → PartFits k true part → PartFits k k.types_always part
  later_fits true part e f = let P : Bool → Type 0 = λ t. PartFits k t part in subst P (sym e) f
  later_fits false part e f = let P : Bool → Type 0 = λ t. PartFits k t part in subst P (sym e) (let h = f.0 in omega arith, f.1)

  -- rows of a later part
  alone_later : (part rest : List X) → PartFits k k.types_always part → RowsFitAlone k k.types_always rest → RowsFitAlone k k.types_always (part ++ rest)
  alone_later [] rest f r = r
  alone_later (x ∷ part) rest f r =
      (PartFits-back k k.types_always (x ∷ []) part f, alone_later part rest (PartFits-front k k.types_always (x ∷ []) part f) r)

  alone_parts : (parts : List (List X)) → FitsFrom k k.types_always parts → RowsFitAlone k k.types_always (rows_in parts)
  alone_parts [] f = tt
  alone_parts (part ∷ parts) f = alone_later part (rows_in parts) f.0 (alone_parts parts f.1)

  alone_cut : (parts : List (List X)) → NoneEmpty parts → FitsFrom k true parts → RowsFitAlone k true (rows_in parts)
  alone_cut [] m f = tt
  alone_cut ([] ∷ parts) m f = absurd (m.0 refl)
  alone_cut ((x ∷ part) ∷ parts) m f = (
    PartFits-back k true (x ∷ []) part f.0,
    alone_later part (rows_in parts) (later_fits k.types_always part refl (PartFits-front k true (x ∷ []) part f.0)) (alone_parts parts f.1),
  )

  singles_fit : (types : Bool) (rows : List X) → RowsFitAlone k types rows → (parts : List (List X)) × NoneEmpty parts × (rows_in parts ≡ rows) × FitsFrom k types parts
  singles_fit types [] r = ([], tt, refl, tt)
  singles_fit types (x ∷ rows) r =
      let more = singles_fit k.types_always rows r.1 in
      ((x ∷ []) ∷ more.0, (λ e. cc, more.1), ap (λ (l : List X). x ∷ l) more.2, (r.0, more.3))

  -- a fitting cut exists exactly if each row fits alone at its place
  pub fits_alone : (rows : List X) → HasFittingCut k rows ↔ RowsFitAlone k true rows
  fits_alone rows = (
    λ c. subst (RowsFitAlone k true) c.1.0.1 (alone_cut c.0 c.1.0.0 c.1.1),
    λ r. let s = singles_fit true rows r in (s.0, ((s.1, s.2), s.3)),
  )
