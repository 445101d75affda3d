-- The places of statements.
use Rattle.std.proofs.Common.{◌≡◌, ◌≢◌, ℕ, zero, suc, ◌+◌, ◌<◌, ◌≤◌, Bool, true, false, List, [], ◌∷◌, Option, Some, None, length, get_or, set, drop, refl, sym, ap, ◌∙◌, ◌==◌, option_map, if◌then◌else◌, eq-eqb, not, arith}
use Rattle.std.proofs.lemmas.Bool.{ne_eqb}
use Rattle.std.specs.List.{remove}
use Rattle.std.proofs.lemmas.List.{drop_more, drop_all}
use Rattle.mysql_statements.specs.Kept.{Kept}
use Rattle.mysql_statements.specs.Statement.{types}
use Rattle.mysql_statements.specs.Table.{place_of, find, change, without, held}

-- ---- in order

-- a place this much further
abbrev pub further : ℕ → Option ℕ → Option ℕ
further i None = None
further i (Some k) = Some (k + i)

none_further : (o : Option ℕ) → o ≡ further 0 o
none_further None = refl
none_further (Some k) = ap (λ n. Some n) (omega arith)

pub from_start : (id : ℕ) (xs : List Kept) → place_of id xs ≡ further 0 (place_of id (drop 0 xs))
from_start id xs = none_further (place_of id xs)

missed_when : (i : ℕ) (b : Bool) (o : Option ℕ) → b ≡ false → further i (if b then Some 0 else option_map suc o) ≡ further (i + 1) o
missed_when i true o h = absurd cc
missed_when i false None h = refl
missed_when i false (Some k) h = ap (λ n. Some n) (omega arith)

pub missed : (id : ℕ) (xs : List Kept) (i : ℕ) (s : Kept) → i < length xs → s ≡ get_or xs i s → s.id ≢ id
    → place_of id xs ≡ further i (place_of id (drop i xs)) → place_of id xs ≡ further (i + 1) (place_of id (drop (i + 1) xs))
missed id xs i s lt r n h =
    let e : place_of id (drop i xs) ≡ place_of id (s ∷ drop (i + 1) xs) = ap (place_of id) (drop_more xs i s lt ∙ ap (λ x. x ∷ drop (i + 1) xs) (sym r)) in
    h ∙ ap (further i) e ∙ missed_when i (s.id == id) (place_of id (drop (i + 1) xs)) (ne_eqb s.id id n)

hit_when : (i : ℕ) (b : Bool) (o : Option ℕ) → b ≡ true → further i (if b then Some 0 else option_map suc o) ≡ Some i
hit_when i true o h = ap (λ n. Some n) (omega arith)
hit_when i false o h = absurd cc

pub hit : (id : ℕ) (xs : List Kept) (i : ℕ) (s : Kept) → i < length xs → s ≡ get_or xs i s → s.id ≡ id
    → place_of id xs ≡ further i (place_of id (drop i xs)) → place_of id xs ≡ Some i
hit id xs i s lt r n h =
    let e : place_of id (drop i xs) ≡ place_of id (s ∷ drop (i + 1) xs) = ap (place_of id) (drop_more xs i s lt ∙ ap (λ x. x ∷ drop (i + 1) xs) (sym r)) in
    h ∙ ap (further i) e ∙ hit_when i (s.id == id) (place_of id (drop (i + 1) xs)) (eq-eqb s.id id n)

pub over : (id : ℕ) (xs : List Kept) (i : ℕ) → length xs ≤ i → place_of id xs ≡ further i (place_of id (drop i xs)) → place_of id xs ≡ None
over id xs i le h = h ∙ ap (λ l. further i (place_of id l)) (drop_all i xs le)

pub ruleset steps = (from_start, missed, hit, over)

-- ---- the number of types kept

pub held_more : (xs : List Kept) (i : ℕ) (s : Kept) → i < length xs → s ≡ get_or xs i s → held (drop i xs) ≡ types s + held (drop (i + 1) xs)
held_more xs i s lt r = ap held (drop_more xs i s lt ∙ ap (λ x. x ∷ drop (i + 1) xs) (sym r))

pub held_over : (xs : List Kept) (i : ℕ) → length xs ≤ i → held (drop i xs) ≡ 0
held_over xs i le = ap held (drop_all i xs le)

pub ruleset counts = (held_more, held_over)

-- ---- a known statement

change_when : (f : Kept → Kept) (b : Bool) (o : Option ℕ) (s : Kept) (ss changed : List Kept) (i : ℕ) (x : Kept)
    → ((j : ℕ) → o ≡ Some j → x ≡ get_or ss j x → changed ≡ set ss j (f x))
    → (if b then Some 0 else option_map suc o) ≡ Some i → x ≡ get_or (s ∷ ss) i x
    → (if b then f s ∷ ss else s ∷ changed) ≡ set (s ∷ ss) i (f x)
change_when f true o s ss changed zero x ih h r = ap (λ y. f y ∷ ss) (sym r)
change_when f false (Some j) s ss changed (suc i) x ih h r = ap (λ l. s ∷ l) (ih i (cc) r)
change_when f _ _ s ss changed _ x ih h r = absurd cc

pub change_at : (id : ℕ) (f : Kept → Kept) (xs : List Kept) (i : ℕ) (x : Kept) → place_of id xs ≡ Some i → x ≡ get_or xs i x → change id f xs ≡ set xs i (f x)
change_at id f [] i x h r = absurd cc
change_at id f (s ∷ ss) i x h r = change_when f (s.id == id) (place_of id ss) s ss (change id f ss) i x (λ j e q. change_at id f ss j x e q) h r

-- the same for a statement that is read and written back
pub changed_at : (id : ℕ) (f : Kept → Kept) (xs : List Kept) (i : ℕ) (x new : Kept) (o : Option ℕ)
    → o ≡ place_of id xs → o ≡ Some i → x ≡ get_or xs i x → new ≡ f (get_or xs i x) → set xs i new ≡ change id f xs
changed_at id f xs i x new o v e r n = ap (set xs i) (n ∙ ap f (sym r)) ∙ sym (change_at id f xs i x (sym v ∙ e) r)

find_when : (b : Bool) (o : Option ℕ) (s : Kept) (ss : List Kept) (found : Option Kept) (i : ℕ) (x : Kept)
    → ((j : ℕ) → o ≡ Some j → x ≡ get_or ss j x → found ≡ Some x)
    → (if b then Some 0 else option_map suc o) ≡ Some i → x ≡ get_or (s ∷ ss) i x
    → (if b then Some s else found) ≡ Some x
find_when true o s ss found zero x ih h r = ap (λ y. Some y) (sym r)
find_when false (Some j) s ss found (suc i) x ih h r = ih i (cc) r
find_when _ _ s ss found _ x ih h r = absurd cc

pub find_at : (id : ℕ) (xs : List Kept) (i : ℕ) (x : Kept) → place_of id xs ≡ Some i → x ≡ get_or xs i x → find id xs ≡ Some x
find_at id [] i x h r = absurd cc
find_at id (s ∷ ss) i x h r = find_when (s.id == id) (place_of id ss) s ss (find id ss) i x (λ j e q. find_at id ss j x e q) h r

-- ---- an unknown statement

none_when : (b : Bool) (o : Option ℕ) → (if b then Some 0 else option_map suc o) ≡ None → (b ≡ false) × (o ≡ None)
none_when true o h = absurd cc
none_when false None h = (refl, refl)
none_when false (Some j) h = absurd cc

change_unless : (b : Bool) (s : Kept) (ss changed hit : List Kept) → b ≡ false → changed ≡ ss → (if b then hit else s ∷ changed) ≡ s ∷ ss
change_unless true s ss changed hit e h = absurd cc
change_unless false s ss changed hit e h = ap (λ l. s ∷ l) h

pub change_nowhere : (id : ℕ) (f : Kept → Kept) (xs : List Kept) → place_of id xs ≡ None → change id f xs ≡ xs
change_nowhere id f [] h = refl
change_nowhere id f (s ∷ ss) h =
    let e = none_when (s.id == id) (place_of id ss) h in change_unless (s.id == id) s ss (change id f ss) (f s ∷ ss) e.0 (change_nowhere id f ss e.1)

find_unless : (b : Bool) (s : Kept) (found : Option Kept) → b ≡ false → found ≡ None → (if b then Some s else found) ≡ None
find_unless true s found e h = absurd cc
find_unless false s found e h = h

pub find_nowhere : (id : ℕ) (xs : List Kept) → place_of id xs ≡ None → find id xs ≡ None
find_nowhere id [] h = refl
find_nowhere id (s ∷ ss) h =
    let e = none_when (s.id == id) (place_of id ss) h in find_unless (s.id == id) s (find id ss) e.0 (find_nowhere id ss e.1)

-- ---- a removed statement

place_zero : (b : Bool) (o : Option ℕ) → (if b then Some 0 else option_map suc o) ≡ Some 0 → b ≡ true
place_zero true o h = refl
place_zero false None h = absurd cc
place_zero false (Some j) h = absurd cc

place_suc : (b : Bool) (o : Option ℕ) (i : ℕ) → (if b then Some 0 else option_map suc o) ≡ Some (suc i) → o ≡ Some i
place_suc true o i h = absurd cc
place_suc false None i h = absurd cc
place_suc false (Some j) i h = let e : j ≡ i = cc in ap (λ n. Some n) e

dropped : (b : Bool) (s : Kept) (w : List Kept) → b ≡ true → w ≡ (if not b then s ∷ w else w)
dropped true s w e = refl
dropped false s w e = absurd cc

pub removed_at : (id : ℕ) (xs : List Kept) (i : ℕ) → place_of id xs ≡ Some i → without id (remove xs i) ≡ without id xs
removed_at id [] i h = absurd cc
removed_at id (s ∷ ss) zero h = dropped (s.id == id) s (without id ss) (place_zero (s.id == id) (place_of id ss) h)
removed_at id (s ∷ ss) (suc i) h = ap (λ w. if not (s.id == id) then s ∷ w else w) (removed_at id ss i (place_suc (s.id == id) (place_of id ss) i h))

stays : (b : Bool) (s : Kept) (w ss : List Kept) → b ≡ false → w ≡ ss → (if not b then s ∷ w else w) ≡ s ∷ ss
stays true s w ss e h = absurd cc
stays false s w ss e h = ap (λ l. s ∷ l) h

pub without_nowhere : (id : ℕ) (xs : List Kept) → place_of id xs ≡ None → without id xs ≡ xs
without_nowhere id [] h = refl
without_nowhere id (s ∷ ss) h =
    let e = none_when (s.id == id) (place_of id ss) h in stays (s.id == id) s (without id ss) ss e.0 (without_nowhere id ss e.1)

pub ruleset gone = (removed_at, without_nowhere)

pub ruleset places = (change_at, find_at, change_nowhere, find_nowhere)
