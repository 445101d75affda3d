-- Cuts over weights, step by step.
use Rattle.std.proofs.Common.{◌≡◌, ◌≢◌, ℕ, suc, ◌+◌, ◌-◌, ◌<◌, ◌≤◌, Bool, true, List, [], ◌∷◌, ◌++◌, length, take, drop, get_or, Option, Some, None, refl, sym, ◌∙◌, ap, subst, arith, length-append}
use Rattle.std.proofs.lemmas.List.{take_at, drop_at, take-append-drop, length-take-le, length-drop, drop-drop, drop_more, drop_all, take_more, take_all, nil_from_length}
use Rattle.std.proofs.lemmas.List.Sums.{sum_by_push}
use Rattle.std.specs.Prelude.{IfSome}
use Rattle.mysql_cuts.specs.Cut.{Packing, request_size, WithinRows, PartFits, FitsFrom, rows_in, NoneEmpty, HasFittingCut, IsFewest, ends_after, types_after}
use Rattle.mysql_cuts.specs.Fewest.{NamesFitting, NamesFewest, CapacityIs}
use Rattle.mysql_cuts.proofs.Packed.{types_after_push, IsPacked, packed_none, packed_more, packed_close, packed_stuck, packed_fewest, fits_front, length-parts}

-- these ends are a fitting cut of the rows after the first `start`
pub record Names (k : Packing ℕ) (types : Bool) (start : ℕ) (rows : List ℕ) (ends : List ℕ) : Type 0 where
  pub parts : List (List ℕ)
  pub named : ends ≡ ends_after start parts
  pub none_empty : NoneEmpty parts
  pub whole : rows_in parts ≡ rows
  pub fits : FitsFrom k types parts

-- a packer at place i of the rows: the number of closed parts, of rows in the open one, and its remaining capacity
pub record Counts (k : Packing ℕ) (rows : List ℕ) (i closed inside : ℕ) (capacity : Option ℕ) : Type 0 where
  pub full : List (List ℕ)
  pub part : List ℕ
  pub packed : IsPacked k true full part (take i rows) (drop i rows)
  pub closed_is : length full ≡ closed
  pub inside_is : length part ≡ inside
  pub capacity_is : CapacityIs k (types_after k true full) part capacity

nonempty : {X : Type 0} (p : List X) → p ≢ [] → 0 < length p
nonempty [] m = absurd (m refl)
nonempty (x ∷ p) m = omega arith

pub nonempty-from_length : {X : Type 0} (p : List X) → 0 < length p → p ≢ []
nonempty-from_length [] h e = absurd (omega arith)
nonempty-from_length (x ∷ p) h e = cc

module _ (k : Packing ℕ) where
  -- the condition on the first end
  pub record Begins (types : Bool) (start : ℕ) (rows : List ℕ) (e : ℕ) (es : List ℕ) : Type 0 where
    pub after : start < e
    pub within : e ≤ start + length rows
    pub first_fits : PartFits k types (take (e - start) rows)
    pub others : Names k k.types_always e (drop (e - start) rows) es

  begins-parts : (types : Bool) (start : ℕ) (rows : List ℕ) (e : ℕ) (es : List ℕ) (parts : List (List ℕ)) → e ∷ es ≡ ends_after start parts → NoneEmpty parts
      → rows_in parts ≡ rows → FitsFrom k types parts → Begins types start rows e es
  begins-parts types start rows e es [] n m w f = cc
  begins-parts types start rows e es (p ∷ ps) n m w f =
      let head : e ≡ start + length p = cc in
      let tail : es ≡ ends_after (start + length p) ps = cc in
      let more = nonempty p m.0 in
      let width : length p ≡ e - start = omega arith in
      let P : List ℕ → Type 0 = PartFits k types in
      let front : take (e - start) rows ≡ p = ap (take (e - start)) (sym w) ∙ take_at p (rows_in ps) (e - start) width in
      let back : rows_in ps ≡ drop (e - start) rows = sym (ap (drop (e - start)) (sym w) ∙ drop_at p (rows_in ps) (e - start) width) in
      let lengths : length (p ++ rows_in ps) ≡ length rows = ap length w in
      record {
        after = omega arith;
        within = omega (arith, lengths, length-append p (rows_in ps));
        first_fits = subst P (sym front) f.0;
        others = record { parts = ps; named = tail ∙ ap (λ s. ends_after s ps) (sym head); none_empty = m.1; whole = back; fits = f.1 };
      }

  -- the first end of a fitting cut
  pub begins : (types : Bool) (start : ℕ) (rows : List ℕ) (e : ℕ) (es : List ℕ) → Names k types start rows (e ∷ es) → Begins types start rows e es
  begins types start rows e es n = begins-parts types start rows e es n.parts n.named n.none_empty n.whole n.fits

  -- one more part at the front of a fitting cut
  pub goes_on : (types : Bool) (start : ℕ) (rows : List ℕ) (e : ℕ) (es : List ℕ) → Begins types start rows e es → Names k types start rows (e ∷ es)
  goes_on types start rows e es b =
      let width : length (take (e - start) rows) ≡ e - start = length-take-le (e - start) rows (let h = b.within in omega arith) in
      let at : start + length (take (e - start) rows) ≡ e = (let h = b.after in omega arith) in
      record {
        parts = take (e - start) rows ∷ b.others.parts;
        named = ap (λ (l : List ℕ). e ∷ l) b.others.named ∙ ap (λ s. s ∷ ends_after s b.others.parts) (sym at);
        none_empty = (nonempty-from_length (take (e - start) rows) (let h = b.after in omega arith), b.others.none_empty);
        whole = ap (λ (l : List ℕ). take (e - start) rows ++ l) b.others.whole ∙ take-append-drop (e - start) rows;
        fits = (b.first_fits, b.others.fits);
      }

  ends_none : (start : ℕ) (parts : List (List ℕ)) → [] ≡ ends_after start parts → rows_in parts ≡ []
  ends_none start [] n = refl
  ends_none start (p ∷ ps) n = cc

  -- without ends there are no rows
  pub names_end : (types : Bool) (start : ℕ) (rows : List ℕ) → Names k types start rows [] → rows ≡ []
  names_end types start rows n = sym n.whole ∙ ends_none start n.parts n.named

  pub names_none : (types : Bool) (start : ℕ) (rows : List ℕ) → rows ≡ [] → Names k types start rows []
  names_none types start rows e = record { parts = []; named = refl; none_empty = tt; whole = sym e; fits = tt }

  -- the ends of a complete cut
  pub names_whole : (sizes ends : List ℕ) → NamesFitting k sizes ends → Names k true 0 sizes ends
  names_whole sizes ends n = record { parts = n.0; named = n.1; none_empty = n.2.0.0; whole = n.2.0.1; fits = n.2.1 }

  pub whole_names : (sizes ends : List ℕ) → Names k true 0 sizes ends → NamesFitting k sizes ends
  whole_names sizes ends n = (n.parts, n.named, ((n.none_empty, n.whole), n.fits))

  -- a loop over the ends at place i
  pub begins_at : (types : Bool) (start : ℕ) (sizes ends : List ℕ) (i : ℕ) → i < length ends → start ≤ length sizes → Names k types start (drop start sizes) (drop i ends)
      → Begins types start (drop start sizes) (get_or ends i 0) (drop (i + 1) ends)
  begins_at types start sizes ends i h s n =
      let P : List ℕ → Type 0 = Names k types start (drop start sizes) in
      begins types start (drop start sizes) (get_or ends i 0) (drop (i + 1) ends) (subst P (drop_more ends i 0 h) n)

  pub goes_on_at : (types : Bool) (start : ℕ) (sizes ends : List ℕ) (i : ℕ) → i < length ends → start ≤ length sizes → start < get_or ends i 0 → get_or ends i 0 ≤ length sizes
      → PartFits k types (take (get_or ends i 0 - start) (drop start sizes)) → Names k k.types_always (get_or ends i 0) (drop (get_or ends i 0) sizes) (drop (i + 1) ends)
      → Names k types start (drop start sizes) (drop i ends)
  goes_on_at types start sizes ends i h s after within f n =
      let P : List ℕ → Type 0 = Names k types start (drop start sizes) in
      let Q : List ℕ → Type 0 = λ rows. Names k k.types_always (get_or ends i 0) rows (drop (i + 1) ends) in
      let at : start + (get_or ends i 0 - start) ≡ get_or ends i 0 = omega arith in
      let rest : drop (get_or ends i 0) sizes ≡ drop (get_or ends i 0 - start) (drop start sizes) = ap (λ m. drop m sizes) (sym at) ∙ sym (drop-drop (get_or ends i 0 - start) start sizes) in
      subst P (sym (drop_more ends i 0 h)) (goes_on types start (drop start sizes) (get_or ends i 0) (drop (i + 1) ends)
      (record { after = after; within = omega (arith, length-drop start sizes); first_fits = f; others = subst Q rest n }))

  pub others_at : (types : Bool) (start : ℕ) (sizes ends : List ℕ) (i : ℕ) → start ≤ length sizes → Begins types start (drop start sizes) (get_or ends i 0) (drop (i + 1) ends)
      → Names k k.types_always (get_or ends i 0) (drop (get_or ends i 0) sizes) (drop (i + 1) ends)
  others_at types start sizes ends i s b =
      let Q : List ℕ → Type 0 = λ rows. Names k k.types_always (get_or ends i 0) rows (drop (i + 1) ends) in
      let after = b.after in
      let at : start + (get_or ends i 0 - start) ≡ get_or ends i 0 = omega arith in
      let rest : drop (get_or ends i 0 - start) (drop start sizes) ≡ drop (get_or ends i 0) sizes = drop-drop (get_or ends i 0 - start) start sizes ∙ ap (λ m. drop m sizes) at in
      subst Q rest b.others

  -- the loop over the ends at the end
  pub names_last : (types : Bool) (start : ℕ) (sizes ends : List ℕ) (i : ℕ) → length ends ≤ i → start ≤ length sizes → Names k types start (drop start sizes) (drop i ends) → start ≡ length sizes
  names_last types start sizes ends i h s n =
      let P : List ℕ → Type 0 = Names k types start (drop start sizes) in
      let none : length (drop start sizes) ≡ 0 = ap length (names_end types start (drop start sizes) (subst P (drop_all i ends h) n)) in
      omega (arith, none, length-drop start sizes)

  pub last_names : (types : Bool) (start : ℕ) (sizes ends : List ℕ) (i : ℕ) → length ends ≤ i → start ≡ length sizes → Names k types start (drop start sizes) (drop i ends)
  last_names types start sizes ends i h s =
      let P : List ℕ → Type 0 = Names k types start (drop start sizes) in
      subst P (sym (drop_all i ends h)) (names_none types start (drop start sizes) (drop_all start sizes (omega arith)))

  -- ---- the packer that counts

  pub counts_none : (rows : List ℕ) (capacity : Option ℕ) → CapacityIs k true [] capacity → Counts k rows 0 0 0 capacity
  counts_none rows capacity r = record { full = []; part = []; packed = packed_none k true rows; closed_is = refl; inside_is = refl; capacity_is = r }

  -- the numbers are within the rows passed
  pub counts_bound : (rows : List ℕ) (i closed inside : ℕ) (capacity : Option ℕ) → i ≤ length rows → Counts k rows i closed inside capacity → closed + inside ≤ i
  counts_bound rows i closed inside capacity h c =
      let whole : length (rows_in c.full ++ c.part) ≡ length (take i rows) = ap length c.packed.same in
      let few = length-parts k c.full c.packed.none_empty in
      let a = c.closed_is in
      let b = c.inside_is in
      omega (arith, whole, length-append (rows_in c.full) c.part, length-take-le i rows h)

  -- the next row fits the open part
  pub counts_more : (rows : List ℕ) (i closed inside left : ℕ) (capacity : Option ℕ) → i < length rows → Counts k rows i closed inside capacity
      → WithinRows k.max_rows (inside + 1) → capacity ≡ Some (left + get_or rows i 0) → ((n : ℕ) → k.weight n ≡ n) → Counts k rows (i + 1) closed (inside + 1) (Some left)
  counts_more rows i closed inside left capacity h c w r plain =
      let x = get_or rows i 0 in
      let types = types_after k true c.full in
      let P : List ℕ → Type 0 = IsPacked k true c.full c.part (take i rows) in
      let Q : List ℕ → Type 0 = λ before. IsPacked k true c.full (c.part ++ x ∷ []) before (drop (i + 1) rows) in
      let R : Option ℕ → Type 0 = CapacityIs k types c.part in
      let W : ℕ → Type 0 = WithinRows k.max_rows in
      let capacity_is : (left + x) + request_size k types c.part ≡ k.limit = subst R r c.capacity_is in
      let more = sum_by_push k.weight c.part x in
      let size = plain x in
      let count : inside + 1 ≡ length (c.part ++ x ∷ []) = (let e = c.inside_is in omega (arith, length-append c.part (x ∷ []))) in
      record {
        full = c.full;
        part = c.part ++ x ∷ [];
        packed = subst Q (sym (take_more rows i 0 h)) (packed_more k true c.full c.part (take i rows) x (drop (i + 1) rows) (subst P (drop_more rows i 0 h) c.packed) (omega arith, subst W count w));
        closed_is = c.closed_is;
        inside_is = sym count;
        capacity_is = omega arith;
      }

  no_capacity : (types : Bool) (part : List ℕ) (x inside : ℕ) (capacity : Option ℕ) → CapacityIs k types part capacity → length part ≡ inside
      → (WithinRows k.max_rows (inside + 1) → IfSome capacity (λ had. had < x)) → ((n : ℕ) → k.weight n ≡ n) → PartFits k types (part ++ x ∷ []) → ⊥
  no_capacity types part x inside None r l n plain f = let more = sum_by_push k.weight part x in let less = f.0 in omega arith
  no_capacity types part x inside (Some had) r l n plain f =
      let W : ℕ → Type 0 = WithinRows k.max_rows in
      let count : length (part ++ x ∷ []) ≡ inside + 1 = omega (arith, length-append part (x ∷ [])) in
      let more = sum_by_push k.weight part x in
      let less = f.0 in
      let size = plain x in
      let tight : had < x = n (subst W count f.1) in
      omega arith

  -- the next row doesn't fit the open part, which has rows: it is closed
  pub counts_close : (rows : List ℕ) (i closed inside : ℕ) (capacity later : Option ℕ) → i < length rows → Counts k rows i closed inside capacity → 0 < inside
      → (WithinRows k.max_rows (inside + 1) → IfSome capacity (λ had. had < get_or rows i 0)) → ((n : ℕ) → k.weight n ≡ n) → CapacityIs k k.types_always [] later → Counts k rows i (closed + 1) 0 later
  counts_close rows i closed inside capacity later h c some n plain r =
      let x = get_or rows i 0 in
      let P : List ℕ → Type 0 = IsPacked k true c.full c.part (take i rows) in
      let Q : List ℕ → Type 0 = IsPacked k true (c.full ++ c.part ∷ []) [] (take i rows) in
      let T : Bool → Type 0 = λ t. CapacityIs k t [] later in
      let e = c.inside_is in
      let here = drop_more rows i 0 h in
      record {
        full = c.full ++ c.part ∷ [];
        part = [];
        packed = subst Q (sym here) (packed_close k true c.full c.part (take i rows) (x ∷ drop (i + 1) rows) (subst P here c.packed) (nonempty-from_length c.part (omega arith))
            (no_capacity (types_after k true c.full) c.part x inside capacity c.capacity_is c.inside_is n plain));
        closed_is = (let e = c.closed_is in omega (arith, length-append c.full (c.part ∷ [])));
        inside_is = refl;
        capacity_is = subst T (sym (types_after_push k true c.full c.part)) r;
      }

  -- the next row doesn't fit an open part without rows
  pub counts_stuck : (rows : List ℕ) (i closed : ℕ) (capacity : Option ℕ) → i < length rows → Counts k rows i closed 0 capacity
      → (WithinRows k.max_rows (0 + 1) → IfSome capacity (λ had. had < get_or rows i 0)) → ((n : ℕ) → k.weight n ≡ n) → HasFittingCut k rows → ⊥
  counts_stuck rows i closed capacity h c n plain f =
      let x = get_or rows i 0 in
      let none = nil_from_length c.part c.inside_is in
      let P : List ℕ → List ℕ → Type 0 = λ part rest. IsPacked k true c.full part (take i rows) rest in
      let F : List ℕ → Type 0 = HasFittingCut k in
      let R : List ℕ → Type 0 = λ part. CapacityIs k (types_after k true c.full) part capacity in
      let packed : P [] (x ∷ drop (i + 1) rows) = subst (P []) (drop_more rows i 0 h) (subst (λ part. P part (drop i rows)) none c.packed) in
      packed_stuck k c.full (take i rows) x (drop (i + 1) rows) packed (no_capacity (types_after k true c.full) [] x 0 capacity (subst R none c.capacity_is) refl n plain)
      (subst F (take_more rows i 0 h) (fits_front k rows (i + 1) f))

  -- the rows end, and the open part has none
  pub counts_done : (rows : List ℕ) (i closed : ℕ) (capacity : Option ℕ) → length rows ≤ i → Counts k rows i closed 0 capacity → (parts : List (List ℕ)) × IsFewest k rows parts × (length parts ≡ closed)
  counts_done rows i closed capacity h c =
      let P : List ℕ → List ℕ → List ℕ → Type 0 = IsPacked k true c.full in
      let none = nil_from_length c.part c.inside_is in
      let a : P [] (take i rows) (drop i rows) = subst (λ part. P part (take i rows) (drop i rows)) none c.packed in
      let b : P [] rows (drop i rows) = subst (λ before. P [] before (drop i rows)) (take_all i rows h) a in
      (c.full, packed_fewest k c.full rows (subst (P [] rows) (drop_all i rows h) b), c.closed_is)

  -- the rows end, and the open part is the last
  pub counts_last : (rows : List ℕ) (i closed inside : ℕ) (capacity : Option ℕ) → length rows ≤ i → Counts k rows i closed inside capacity → 0 < inside
      → (parts : List (List ℕ)) × IsFewest k rows parts × (length parts ≡ closed + 1)
  counts_last rows i closed inside capacity h c some =
      let P : List ℕ → List ℕ → Type 0 = IsPacked k true c.full c.part in
      let a : P rows (drop i rows) = subst (λ before. P before (drop i rows)) (take_all i rows h) c.packed in
      let e = c.inside_is in
      let last = packed_close k true c.full c.part rows [] (subst (P rows) (drop_all i rows h) a) (nonempty-from_length c.part (omega arith)) tt in
      (c.full ++ c.part ∷ [], packed_fewest k (c.full ++ c.part ∷ []) rows last, (let e = c.closed_is in omega (arith, length-append c.full (c.part ∷ []))))

  -- ---- the answer

  pub length-ends : (n : ℕ) (parts : List (List ℕ)) → length (ends_after n parts) ≡ length parts
  length-ends n [] = refl
  length-ends n (p ∷ parts) = ap suc (length-ends (n + length p) parts)

  -- a fitting cut with as many parts as a fewest one is a fewest one
  pub as_few : (sizes ends : List ℕ) (least : ℕ) → (parts : List (List ℕ)) × IsFewest k sizes parts × (length parts ≡ least) → length ends ≡ least → NamesFitting k sizes ends → NamesFewest k sizes ends
  as_few sizes ends least best l n =
      let lengths : length ends ≡ length n.0 = ap length n.1 ∙ length-ends 0 n.0 in
      (n.0, n.1, (n.2, λ others f. let less = best.1.1 others f in omega (arith, less, lengths, l, best.2)))

  -- all fewest cuts have the same number of parts
  pub fewest_count : (sizes ends : List ℕ) (least : ℕ) → (parts : List (List ℕ)) × IsFewest k sizes parts × (length parts ≡ least) → NamesFewest k sizes ends → length ends ≡ least
  fewest_count sizes ends least best n =
      let lengths : length ends ≡ length n.0 = ap length n.1 ∙ length-ends 0 n.0 in
      let less = best.1.1 n.0 n.2.0 in
      let more = n.2.1 best.0 best.1.0 in
      omega (arith, less, more, lengths, best.2)
