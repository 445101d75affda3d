-- Cuts that are full from the front: no other cut is ahead of one or has fewer parts.
use Rattle.std.proofs.Common.{◌≡◌, ◌≢◌, ℕ, zero, suc, ◌+◌, ◌-◌, ◌<◌, ◌≤◌, Bool, true, List, [], ◌∷◌, ◌++◌, length, take, drop, Option, Some, None, refl, sym, ◌∙◌, ap, subst, inl, inr, arith, length-append, append_assoc}
use Rattle.std.proofs.lemmas.Bool.{cases_lt}
use Rattle.std.proofs.lemmas.List.Sums.{sum_by-append}
use Rattle.std.proofs.lemmas.List.Concat.{flat_map-append}
use Rattle.std.proofs.lemmas.List.{append-nil, take-append-le, take-append-drop}
use Rattle.std.proofs.Math.Seq.{take-append-add}
use Rattle.mysql_cuts.specs.Cut.{Packing, WithinRows, PartFits, FitsFrom, rows_in, NoneEmpty, HasFittingCut, IsFewest, rows_in_first, IsFullFromFront, NextDoesNotFit, FullFrom, types_after}

-- ---- lists

-- of two fronts of a list, the longer one begins with the shorter
pub split_longer : {X : Type 0} (r p q s : List X) → p ++ q ≡ r ++ s → length r ≤ length p → (t : List X) × (p ≡ r ++ t) × (s ≡ t ++ q)
split_longer [] p q s e h = (p, refl, sym e)
split_longer (y ∷ r) [] q s e h = absurd (omega arith)
split_longer (y ∷ r) (x ∷ p) q s e h =
    let tails : p ++ q ≡ r ++ s = cc in
    let heads : x ≡ y = cc in
    let more = split_longer r p q s tails (omega arith) in
    (more.0, (let f : p ≡ r ++ more.0 = more.1 in cc), more.2)

-- ---- a part

-- a request with fewer rows is allowed too
WithinRows-less : (most : Option ℕ) (m n : ℕ) → m ≤ n → WithinRows most n → WithinRows most m
WithinRows-less None m n h w = tt
WithinRows-less (Some most) m n h w = omega arith

-- fewer rows at the end
pub PartFits-back : {X : Type 0} (k : Packing X) (types : Bool) (p q : List X) → PartFits k types (p ++ q) → PartFits k types p
PartFits-back k types p q f =
    (omega (arith, sum_by-append k.weight p q), WithinRows-less k.max_rows (length p) (length (p ++ q)) (omega (arith, length-append p q)) f.1)

-- fewer rows at the front
pub PartFits-front : {X : Type 0} (k : Packing X) (types : Bool) (p q : List X) → PartFits k types (p ++ q) → PartFits k types q
PartFits-front k types p q f =
    (omega (arith, sum_by-append k.weight p q), WithinRows-less k.max_rows (length q) (length (p ++ q)) (omega (arith, length-append p q)) f.1)

-- ---- a cut that is full from the front

module _ {X : Type 0} (k : Packing X) where
  -- a part that extends beyond a full one doesn't fit
  too_long : (types : Bool) (q extra p : List X) (x : X) (ts : List X) → PartFits k types q → (PartFits k types (p ++ x ∷ []) → ⊥) → q ≡ (extra ++ p) ++ x ∷ ts → ⊥
  too_long types q extra p x ts f n e =
      let same : q ≡ extra ++ ((p ++ x ∷ []) ++ ts) = e ∙ append_assoc extra p (x ∷ ts) ∙ ap (λ (l : List X). extra ++ l) (sym (append_assoc p (x ∷ []) ts)) in
      let P : List X → Type 0 = PartFits k types in
      n (PartFits-back k types (p ++ x ∷ []) ts (PartFits-front k types extra ((p ++ x ∷ []) ++ ts) (subst P same f)))

  not_longer : (types : Bool) (q extra p s : List X) (x : X) (r t : List X) → PartFits k types q → (PartFits k types (p ++ x ∷ []) → ⊥)
      → length (extra ++ p) < length q → q ≡ (extra ++ p) ++ t → x ∷ r ≡ t ++ s → ⊥
  not_longer types q extra p s x r [] f n more e h =
      let lengths : length q ≡ length ((extra ++ p) ++ []) = ap length e in
      omega (arith, lengths, length-append (extra ++ p) [])
  not_longer types q extra p s x r (y ∷ ts) f n more e h =
      let heads : x ≡ y = cc in
      too_long types q extra p x ts f n (e ∙ ap (λ z. (extra ++ p) ++ z ∷ ts) (sym heads))

  -- a part that begins no later than a full one ends no later
  pub ends_no_later : (types : Bool) (q extra p s r : List X) → PartFits k types q → NextDoesNotFit k types p r → q ++ s ≡ extra ++ (p ++ r)
      → (t : List X) × (extra ++ p ≡ q ++ t) × (s ≡ t ++ r)
  ends_no_later types q extra p s [] f n e =
      let whole : (extra ++ p) ++ [] ≡ q ++ s = append_assoc extra p [] ∙ sym e in
      let lengths : length ((extra ++ p) ++ []) ≡ length (q ++ s) = ap length whole in
      split_longer q (extra ++ p) [] s whole (omega (arith, lengths, length-append (extra ++ p) [], length-append q s))
  ends_no_later types q extra p s (x ∷ r) f n e =
      let whole : (extra ++ p) ++ x ∷ r ≡ q ++ s = append_assoc extra p (x ∷ r) ∙ sym e in
      elim (cases_lt (length (extra ++ p)) (length q)) [
        | inl more ↦ let t = split_longer (extra ++ p) q s (x ∷ r) (sym whole) (omega arith) in absurd (not_longer types q extra p s x r t.0 f n more t.1 t.2)
        | inr less ↦ split_longer q (extra ++ p) (x ∷ r) s whole less
      ]

  -- the first n parts of another cut hold no more rows, where its parts begin `extra` earlier
  pub not_ahead : (types : Bool) (full others : List (List X)) (extra rest tail : List X) (n : ℕ) → FullFrom k types full rest → FitsFrom k types others
      → rows_in others ++ tail ≡ extra ++ (rows_in full ++ rest) → n ≤ length full → rows_in_first n others ≤ length extra + rows_in_first n full
  not_ahead types full others extra rest tail zero c f e h = omega arith
  not_ahead types full [] extra rest tail (suc n) c f e h = omega arith
  not_ahead types [] (q ∷ others) extra rest tail (suc n) c f e h = absurd (omega arith)
  not_ahead types (p ∷ full) (q ∷ others) extra rest tail (suc n) c f e h =
      let whole : q ++ (rows_in others ++ tail) ≡ extra ++ (p ++ (rows_in full ++ rest)) =
      sym (append_assoc q (rows_in others) tail) ∙ e ∙ ap (λ (l : List X). extra ++ l) (append_assoc p (rows_in full) rest) in
      let t = ends_no_later types q extra p (rows_in others ++ tail) (rows_in full ++ rest) f.0 c.1 whole in
      let lengths : length (extra ++ p) ≡ length (q ++ t.0) = ap length t.1 in
      let less = not_ahead k.types_always full others t.0 rest tail n c.2 f.1 t.2 (omega arith) in
      omega (arith, less, lengths, length-append extra p, length-append q t.0, length-append q (rows_in (take n others)), length-append p (rows_in (take n full)))

  -- a cut of as many rows, and of those `extra` before them, has at least as many parts
  pub not_fewer : (types : Bool) (full others : List (List X)) (extra rest : List X) → FullFrom k types full rest → NoneEmpty full → FitsFrom k types others
      → rows_in others ≡ extra ++ (rows_in full ++ rest) → length full ≤ length others
  not_fewer types [] others extra rest c m f e = omega arith
  not_fewer types ([] ∷ full) others extra rest c m f e = absurd (m.0 refl)
  not_fewer types ((x ∷ p) ∷ full) [] extra rest c m f e =
      let lengths : 0 ≡ length (extra ++ x ∷ (p ++ rows_in full ++ rest)) = ap length e in
      omega (arith, lengths, length-append extra (x ∷ (p ++ rows_in full ++ rest)))
  not_fewer types ((x ∷ p) ∷ full) (q ∷ others) extra rest c m f e =
      let whole : q ++ rows_in others ≡ extra ++ ((x ∷ p) ++ (rows_in full ++ rest)) = e ∙ ap (λ (l : List X). extra ++ l) (append_assoc (x ∷ p) (rows_in full) rest) in
      let t = ends_no_later types q extra (x ∷ p) (rows_in others) (rows_in full ++ rest) f.0 c.1 whole in
      let less = not_fewer k.types_always full others t.0 rest c.2 m.1 f.1 t.2 in
      omega (arith, less)

  later : (full : List (List X)) → types_after k k.types_always full ≡ k.types_always
  later [] = refl
  later (part ∷ parts) = refl

  pub joined_push : (parts : List (List X)) (part : List X) → rows_in (parts ++ part ∷ []) ≡ rows_in parts ++ part
  joined_push parts part = flat_map-append (λ p. p) parts (part ∷ []) ∙ ap (λ (l : List X). rows_in parts ++ l) (append-nil part)

  pub joined_seam : (parts : List (List X)) (part rest : List X) → rows_in parts ++ (part ++ rest) ≡ rows_in (parts ++ part ∷ []) ++ rest
  joined_seam parts part rest = sym (append_assoc (rows_in parts) part rest) ∙ ap (λ (l : List X). l ++ rest) (sym (joined_push parts part))

  pub NoneEmpty-push : (parts : List (List X)) (part : List X) → NoneEmpty parts → part ≢ [] → NoneEmpty (parts ++ part ∷ [])
  NoneEmpty-push [] part m n = (n, tt)
  NoneEmpty-push (p ∷ parts) part m n = (m.0, NoneEmpty-push parts part m.1 n)

  pub FitsFrom-full : (types : Bool) (full : List (List X)) (rest : List X) → FullFrom k types full rest → FitsFrom k types full
  FitsFrom-full types [] rest c = tt
  FitsFrom-full types (part ∷ parts) rest c = (c.0, FitsFrom-full k.types_always parts rest c.2)

  pub FitsFrom-push : (types : Bool) (parts : List (List X)) (part : List X) → FitsFrom k types parts → PartFits k (types_after k types parts) part → FitsFrom k types (parts ++ part ∷ [])
  FitsFrom-push types [] part f p = (p, tt)
  FitsFrom-push types (q ∷ parts) part f p =
      let P : Bool → Type 0 = λ b. PartFits k b part in
      (f.0, FitsFrom-push k.types_always parts part f.1 (subst P (sym (later parts)) p))

  pub FullFrom-push : (types : Bool) (full : List (List X)) (part rest : List X) → FullFrom k types full (part ++ rest) → PartFits k (types_after k types full) part
      → NextDoesNotFit k (types_after k types full) part rest → FullFrom k types (full ++ part ∷ []) rest
  FullFrom-push types [] part rest c p n = (p, n, tt)
  FullFrom-push types (q ∷ full) part rest c p n =
      let P : Bool → Type 0 = λ b. PartFits k b part in
      let N : Bool → Type 0 = λ b. NextDoesNotFit k b part rest in
      let Q : List X → Type 0 = NextDoesNotFit k types q in
      (c.0, subst Q (joined_seam full part rest) c.1, FullFrom-push k.types_always full part rest c.2 (subst P (sym (later full)) p) (subst N (sym (later full)) n))

  -- after the first request, no cut has a row that doesn't fit alone
  stuck_later : (full others : List (List X)) (extra : List X) (x : X) (rest tail : List X) → FullFrom k k.types_always full (x ∷ rest) → FitsFrom k k.types_always others
      → (PartFits k k.types_always (x ∷ []) → ⊥) → rows_in others ++ tail ≡ extra ++ (rows_in full ++ x ∷ rest) → length (rows_in others) ≤ length extra + length (rows_in full)
  stuck_later full [] extra x rest tail c f n e = omega arith
  stuck_later [] (q ∷ others) extra x rest tail c f n e =
      let t = ends_no_later k.types_always q extra [] (rows_in others ++ tail) (x ∷ rest) f.0 n (sym (append_assoc q (rows_in others) tail) ∙ e) in
      let lengths : length (extra ++ []) ≡ length (q ++ t.0) = ap length t.1 in
      let less = stuck_later [] others t.0 x rest tail tt f.1 n t.2 in
      omega (arith, less, lengths, length-append extra [], length-append q t.0, length-append q (rows_in others))
  stuck_later (p ∷ full) (q ∷ others) extra x rest tail c f n e =
      let whole : q ++ (rows_in others ++ tail) ≡ extra ++ (p ++ (rows_in full ++ x ∷ rest)) =
      sym (append_assoc q (rows_in others) tail) ∙ e ∙ ap (λ (l : List X). extra ++ l) (append_assoc p (rows_in full) (x ∷ rest)) in
      let t = ends_no_later k.types_always q extra p (rows_in others ++ tail) (rows_in full ++ x ∷ rest) f.0 c.1 whole in
      let lengths : length (extra ++ p) ≡ length (q ++ t.0) = ap length t.1 in
      let less = stuck_later full others t.0 x rest tail c.2 f.1 n t.2 in
      omega (arith, less, lengths, length-append extra p, length-append q t.0, length-append q (rows_in others), length-append p (rows_in full))

  -- no fitting cut has a row that doesn't fit alone after the full parts before it
  pub stuck : (types : Bool) (full others : List (List X)) (x : X) (rest tail : List X) → FullFrom k types full (x ∷ rest) → NoneEmpty others → FitsFrom k types others
      → (PartFits k (types_after k types full) (x ∷ []) → ⊥) → rows_in others ++ tail ≡ rows_in full ++ x ∷ rest → length (rows_in others) ≤ length (rows_in full)
  stuck types full [] x rest tail c m f n e = omega arith
  stuck types [] ([] ∷ others) x rest tail c m f n e = absurd (m.0 refl)
  stuck types [] ((y ∷ q) ∷ others) x rest tail c m f n e =
      let heads : y ≡ x = cc in
      let P : X → Type 0 = λ z. PartFits k types (z ∷ []) in
      absurd (n (subst P heads (PartFits-back k types (y ∷ []) q f.0)))
  stuck types (p ∷ full) (q ∷ others) x rest tail c m f n e =
      let whole : q ++ (rows_in others ++ tail) ≡ [] ++ (p ++ (rows_in full ++ x ∷ rest)) =
      sym (append_assoc q (rows_in others) tail) ∙ e ∙ append_assoc p (rows_in full) (x ∷ rest) in
      let t = ends_no_later types q [] p (rows_in others ++ tail) (rows_in full ++ x ∷ rest) f.0 c.1 whole in
      let lengths : length p ≡ length (q ++ t.0) = ap length t.1 in
      let less = stuck_later full others t.0 x rest tail c.2 f.1 n t.2 in
      omega (arith, less, lengths, length-append q t.0, length-append q (rows_in others), length-append p (rows_in full))

  -- the beginning of rows with a cut has a cut
  pub cut_front : (types : Bool) (parts : List (List X)) (n : ℕ) → NoneEmpty parts → FitsFrom k types parts
      → (others : List (List X)) × NoneEmpty others × (rows_in others ≡ take n (rows_in parts)) × FitsFrom k types others
  cut_front types parts zero m f = ([], tt, refl, tt)
  cut_front types [] (suc n) m f = ([], tt, refl, tt)
  cut_front types ([] ∷ parts) (suc n) m f = absurd (m.0 refl)
  cut_front types ((x ∷ p) ∷ parts) (suc n) m f =
      elim (cases_lt n (length p)) [
        | inl less ↦
            let front : p ≡ take n p ++ drop n p = sym (take-append-drop n p) in
            let P : List X → Type 0 = λ l. PartFits k types (x ∷ l) in (
              (x ∷ take n p) ∷ [],
              ((λ e. cc), tt),
              (let e = append-nil (take n p) in let g = take-append-le n p (rows_in parts) (omega arith) in cc),
              (PartFits-back k types (x ∷ take n p) (drop n p) (subst P front f.0), tt),
            )
        | inr more ↦
            let others = cut_front k.types_always parts (n - length p) m.1 f.1 in
            let at : n ≡ length p + (n - length p) = omega arith in
            let g : take n (p ++ rows_in parts) ≡ p ++ take (n - length p) (rows_in parts) = ap (λ i. take i (p ++ rows_in parts)) at ∙ take-append-add p (rows_in parts) (n - length p) in
            ((x ∷ p) ∷ others.0, (m.0, others.1), ap (λ (l : List X). x ∷ (p ++ l)) others.2 ∙ ap (λ (l : List X). x ∷ l) (sym g), (f.0, others.3))
      ]

  -- ---- the state of a packer: closed parts, the rows of an open part, and the rows to come

  -- the rows of the open part, if there are any, are a fitting request
  abbrev pub OpenFits : Bool → List X → Type 0
  OpenFits types [] = Unit {0}
  OpenFits types (x ∷ xs) = PartFits k types (x ∷ xs)

  -- the rows before the ones to come are packed: in full parts, and an open part
  pub record IsPacked (types : Bool) (full : List (List X)) (part before rest : List X) : Type 0 where
    pub same : rows_in full ++ part ≡ before
    pub none_empty : NoneEmpty full
    pub full_so_far : FullFrom k types full (part ++ rest)
    pub open_fits : OpenFits (types_after k types full) part

  pub packed_none : (types : Bool) (rest : List X) → IsPacked types [] [] [] rest
  packed_none types rest = record { same = refl; none_empty = tt; full_so_far = tt; open_fits = tt }

  OpenFits-from : (types : Bool) (part : List X) → PartFits k types part → OpenFits types part
  OpenFits-from types [] f = tt
  OpenFits-from types (x ∷ xs) f = f

  -- an open part alone
  pub open_packed : (types : Bool) (part rest : List X) → (part ≢ [] → PartFits k types part) → IsPacked types [] part part rest
  open_packed types part rest f = record { same = refl; none_empty = tt; full_so_far = tt; open_fits = opens part f }
    where
      opens : (part : List X) → (part ≢ [] → PartFits k types part) → OpenFits types part
      opens [] f = tt
      opens (x ∷ xs) f = f (λ e. cc)

  OpenFits-to : (types : Bool) (part : List X) → OpenFits types part → part ≢ [] → PartFits k types part
  OpenFits-to types [] f n = absurd (n refl)
  OpenFits-to types (x ∷ xs) f n = f

  -- the next row fits with the open part
  pub packed_more : (types : Bool) (full : List (List X)) (part before : List X) (x : X) (rest : List X) → IsPacked types full part before (x ∷ rest)
      → PartFits k (types_after k types full) (part ++ x ∷ []) → IsPacked types full (part ++ x ∷ []) (before ++ x ∷ []) rest
  packed_more types full part before x rest p f = record {
    same = sym (append_assoc (rows_in full) part (x ∷ [])) ∙ ap (λ (l : List X). l ++ x ∷ []) p.same;
    none_empty = p.none_empty;
    full_so_far = (let P : List X → Type 0 = FullFrom k types full in subst P (sym (append_assoc part (x ∷ []) rest)) p.full_so_far);
    open_fits = OpenFits-from (types_after k types full) (part ++ x ∷ []) f;
  }

  -- the open part is closed, since there is no next row or it doesn't fit
  pub packed_close : (types : Bool) (full : List (List X)) (part before rest : List X) → IsPacked types full part before rest → part ≢ []
      → NextDoesNotFit k (types_after k types full) part rest → IsPacked types (full ++ part ∷ []) [] before rest
  packed_close types full part before rest p m n = record {
    same = append-nil (rows_in (full ++ part ∷ [])) ∙ joined_push full part ∙ p.same;
    none_empty = NoneEmpty-push full part p.none_empty m;
    full_so_far = FullFrom-push types full part rest p.full_so_far (OpenFits-to (types_after k types full) part p.open_fits m) n;
    open_fits = tt;
  }

  -- ---- all rows are packed

  -- all rows are in full parts: the cut is a fewest one
  pub packed_fewest : (full : List (List X)) (rows : List X) → IsPacked true full [] rows [] → IsFewest k rows full
  packed_fewest full rows p =
      let whole : rows_in full ≡ rows = sym (append-nil (rows_in full)) ∙ p.same in (
        ((p.none_empty, whole), FitsFrom-full true full [] p.full_so_far),
        λ others c. not_fewer true full others [] [] p.full_so_far p.none_empty c.1 (c.0.1 ∙ sym whole ∙ sym (append-nil (rows_in full))),
      )

  -- the closed parts are full from the front, whatever follows them
  pub packed_full : (types : Bool) (full : List (List X)) (part before rest : List X) → IsPacked types full part before rest → types ≡ true → IsFullFromFront k (before ++ rest) full
  packed_full types full part before rest p first n h b others c =
      let whole : before ++ rest ≡ rows_in full ++ (part ++ rest) = ap (λ (l : List X). l ++ rest) (sym p.same) ∙ append_assoc (rows_in full) part rest in
      let P : Bool → Type 0 = λ t. FitsFrom k t others in
      let cut : rows_in others ++ drop b (before ++ rest) ≡ before ++ rest = ap (λ (l : List X). l ++ drop b (before ++ rest)) c.0.1 ∙ take-append-drop b (before ++ rest) in
      let less = not_ahead types full others [] (part ++ rest) (drop b (before ++ rest)) n p.full_so_far (subst P (sym first) c.1) (cut ∙ whole) h in
      omega (arith, less)

  -- the rows before have a fitting cut
  pub packed_fits : (full : List (List X)) (part before rest : List X) → IsPacked true full part before rest → HasFittingCut k before
  packed_fits full [] before rest p = (full, ((p.none_empty, sym (append-nil (rows_in full)) ∙ p.same), FitsFrom-full true full ([] ++ rest) p.full_so_far))
  packed_fits full (x ∷ part) before rest p = (
    full ++ (x ∷ part) ∷ [],
    (
      (NoneEmpty-push full (x ∷ part) p.none_empty (λ e. cc), joined_push full (x ∷ part) ∙ p.same),
      FitsFrom-push true full (x ∷ part) (FitsFrom-full true full ((x ∷ part) ++ rest) p.full_so_far) p.open_fits,
    ),
  )

  -- the beginning of rows with a fitting cut has one
  pub fits_front : (rows : List X) (n : ℕ) → HasFittingCut k rows → HasFittingCut k (take n rows)
  fits_front rows n c =
      let others = cut_front true c.0 n c.1.0.0 c.1.1 in
      (others.0, ((others.1, others.2 ∙ ap (take n) c.1.0.1), others.3))

  -- no fitting cut has a row that doesn't fit alone at the start of a request
  pub packed_stuck : (full : List (List X)) (before : List X) (x : X) (rest : List X) → IsPacked true full [] before (x ∷ rest)
      → (PartFits k (types_after k true full) (x ∷ []) → ⊥) → HasFittingCut k (before ++ x ∷ []) → ⊥
  packed_stuck full before x rest p n c =
      let whole : rows_in full ≡ before = sym (append-nil (rows_in full)) ∙ p.same in
      let cut : rows_in c.0 ++ rest ≡ rows_in full ++ x ∷ rest = ap (λ (l : List X). l ++ rest) c.1.0.1 ∙ append_assoc before (x ∷ []) rest ∙ ap (λ (l : List X). l ++ x ∷ rest) (sym whole) in
      let less = stuck true full c.0 x rest rest p.full_so_far c.1.0.0 c.1.1 n cut in
      let lengths : length (rows_in c.0) ≡ length (before ++ x ∷ []) = ap length c.1.0.1 in
      omega (arith, less, lengths, length-append before (x ∷ []), ap length whole)

  pub types_after_push : (types : Bool) (parts : List (List X)) (part : List X) → types_after k types (parts ++ part ∷ []) ≡ k.types_always
  types_after_push types [] part = refl
  types_after_push types (p ∷ parts) part = refl

  pub types_later : (parts : List (List X)) → types_after k k.types_always parts ≡ k.types_always
  types_later [] = refl
  types_later (part ∷ parts) = refl

  -- there are at most as many parts as rows
  pub length-parts : (parts : List (List X)) → NoneEmpty parts → length parts ≤ length (rows_in parts)
  length-parts [] m = omega arith
  length-parts ([] ∷ parts) m = absurd (m.0 refl)
  length-parts ((x ∷ p) ∷ parts) m = omega (arith, length-parts parts m.1, length-append p (rows_in parts))

  -- a front of the rows to come
  NextDoesNotFit-front : (types : Bool) (part rest more : List X) → NextDoesNotFit k types part (rest ++ more) → NextDoesNotFit k types part rest
  NextDoesNotFit-front types part [] more n = tt
  NextDoesNotFit-front types part (x ∷ rest) more n = n

  pub FullFrom-front : (types : Bool) (full : List (List X)) (rest more : List X) → FullFrom k types full (rest ++ more) → FullFrom k types full rest
  FullFrom-front types [] rest more c = tt
  FullFrom-front types (part ∷ full) rest more c =
      let P : List X → Type 0 = NextDoesNotFit k types part in
      (c.0, NextDoesNotFit-front types part (rows_in full ++ rest) more (subst P (sym (append_assoc (rows_in full) rest more)) c.1), FullFrom-front k.types_always full rest more c.2)

  pub packed_front : (types : Bool) (full : List (List X)) (part before rest more : List X) → IsPacked types full part before (rest ++ more) → IsPacked types full part before rest
  packed_front types full part before rest more p = record {
    same = p.same;
    none_empty = p.none_empty;
    full_so_far = (let P : List X → Type 0 = FullFrom k types full in FullFrom-front types full (part ++ rest) more (subst P (sym (append_assoc part rest more)) p.full_so_far));
    open_fits = p.open_fits;
  }
