-- A run of a writer over rows of values, DEFAULT and IGNORE: those sent, waiting and still to come.
use Rattle.std.proofs.Common.{◌≡◌, ◌≢◌, ℕ, Bool, true, false, if◌then◌else◌, List, [], ◌∷◌, ◌++◌, None, Option, Some, Ok, Err, refl, sym, ◌∙◌, ap, subst, inl, inr, append_assoc}
use Rattle.std.proofs.lemmas.Bool.{ne_eqb}
use Rattle.std.proofs.lemmas.List.{append-nil}
use Rattle.mysql_cuts.specs.Cut.{PartFits, HasFittingCut, IsFewest, NextDoesNotFit, rows_in, types_after}
use Rattle.mysql_cuts.proofs.Packed.{IsPacked, open_packed, packed_more, packed_close, packed_fewest, packed_full, packed_fits, packed_stuck, types_after_push, types_later}
use Rattle.mysql_bulk.specs.declared.error.BulkRowError.{BulkRowError}
use Rattle.mysql_bulk.specs.declared.error.BulkRowError.TheVariants as refused
use Rattle.mysql_bulk.specs.BulkValue.{Cell}
use Rattle.mysql_bulk.specs.RequestWriter.{WriterState}
use Rattle.mysql_bulk.specs.ValueRows.{AddsAfter, AddsCells, AreCellRequests, CellsFit, HoldsCells, LetsGo, StreamsCells, packing, request_of_cells, so_far}
use Rattle.mysql_bulk.specs.ValuesRun.{CellsRunGives, EndsBy, LacksRoom, Offered, OfferRefused, next_of, with_settings}
use Rattle.mysql_bulk.proofs.ValueRows.{holds_none, so_far_is}
use Rattle.mysql_bulk.proofs.WrittenRows.{none_counted, some_counted}

-- the request was released, and the buffer has these bytes
abbrev let_go : WriterState → WriterState → WriterState
let_go u v = record u { types_due = u.rule.types_always; count = 0; size = 0; bytes = []; capacity = v.capacity }

let_go_is : (u v : WriterState) → u.count ≢ 0 → LetsGo u v → v ≡ let_go u v
let_go_is u v some h = h ∙ ap (λ (b : Bool). if b then record u { capacity = v.capacity } else let_go u v) (ne_eqb u.count 0 some)

requests_push : (w : WriterState) (types : Bool) (cut : List (List (List Cell))) (requests : List (List ℕ)) (part : List (List Cell)) (bytes : List ℕ) → AreCellRequests w types cut requests
    → bytes ≡ request_of_cells w (types_after (packing w) types cut) part → AreCellRequests w types (cut ++ part ∷ []) (requests ++ bytes ∷ [])
requests_push w types [] [] part bytes a e = (e, tt)
requests_push w types (p ∷ cut) (q ∷ requests) part bytes a e =
    (a.0, requests_push w w.rule.types_always cut requests part bytes a.1 (e ∙ ap (λ (t : Bool). request_of_cells w t part) (sym (types_later (packing w) cut))))
requests_push w types cut requests part bytes a e = absurd a

-- ---- the run

-- a run from w over all these rows: the writer is u, and these rows are still to come
pub record Going (w : WriterState) (all rest : List (List Cell)) (requests : List (List ℕ)) (u : WriterState) : Type 0 where
  pub cut : List (List (List Cell))
  -- the rows that were sent or wait
  pub before : List (List Cell)
  pub waiting : List (List Cell)
  pub packed : IsPacked (packing w) w.types_due cut waiting before rest
  pub whole : before ++ rest ≡ all
  pub holds : HoldsCells u waiting
  pub settings : u ≡ with_settings w (types_after (packing w) w.types_due cut) u
  pub bytes : AreCellRequests w w.types_due cut requests

pub begins : (w : WriterState) (before rest : List (List Cell)) → HoldsCells w before → Going w (before ++ rest) rest [] w
begins w before rest h = record { cut = []; before = before; waiting = before; packed = open_packed (packing w) w.types_due before rest h.fits; whole = refl; holds = h; settings = refl; bytes = tt }

module _ {w u : WriterState} {all : List (List Cell)} {requests : List (List ℕ)} where
  -- whether the row fits is decided by the state at the start of the run
  fits_here : (row : List Cell) (rest : List (List Cell)) (g : Going w all rest requests u) → CellsFit u g.waiting row → PartFits (packing w) (types_after (packing w) w.types_due g.cut) (g.waiting ++ row ∷ [])
  fits_here row rest g f = rw g.settings at f

  fits_there : (row : List Cell) (rest : List (List Cell)) (g : Going w all rest requests u) → PartFits (packing w) (types_after (packing w) w.types_due g.cut) (g.waiting ++ row ∷ []) → CellsFit u g.waiting row
  fits_there row rest g f = rw g.settings f

  -- one more row was written
  one_more : (row : List Cell) (rest : List (List Cell)) (m : WriterState) → Going w all (row ∷ rest) requests u → AddsCells u row (Ok true) m → Going w all rest requests m
  one_more row rest m g adds =
      let a = adds g.waiting g.holds in
      record {
        cut = g.cut;
        before = g.before ++ row ∷ [];
        waiting = g.waiting ++ row ∷ [];
        packed = packed_more (packing w) w.types_due g.cut g.waiting g.before row rest g.packed (fits_here row (row ∷ rest) g a.1);
        whole = append_assoc g.before (row ∷ []) rest ∙ g.whole;
        holds = a.2.0;
        settings = a.2.1 ∙ ap (λ (x : WriterState). record x { count = m.count; size = m.size; bytes = m.bytes; capacity = m.capacity }) g.settings;
        bytes = g.bytes;
      }

  -- the request of the waiting rows was released, since there is no next row or it does not fit
  let_go_next : (rest : List (List Cell)) (v : WriterState) (g : Going w all rest requests u) → u.count ≢ 0 → NextDoesNotFit (packing w) (types_after (packing w) w.types_due g.cut) g.waiting rest → LetsGo u v
      → Going w all rest (requests ++ u.bytes ∷ []) v
  let_go_next rest v g counted next go =
      let k = packing w in
      let some = some_counted g.waiting g.holds.count counted in
      rw (let_go_is u v counted go) (record {
        cut = g.cut ++ g.waiting ∷ [];
        before = g.before;
        waiting = [];
        packed = packed_close k w.types_due g.cut g.waiting g.before rest g.packed some next;
        whole = g.whole;
        holds = holds_none (let_go u v) refl refl refl;
        settings = ap (λ (x : WriterState). let_go x v) g.settings ∙ ap (λ (t : Bool). with_settings w t (let_go u v)) (sym (types_after_push k w.types_due g.cut g.waiting));
        bytes = requests_push w w.types_due g.cut requests g.waiting u.bytes g.bytes (g.holds.bytes ∙ ap (λ (x : WriterState). so_far x g.waiting) g.settings ∙ so_far_is (with_settings w (types_after k w.types_due g.cut) u) g.waiting some);
      })

  one_sent : (row : List Cell) (rest : List (List Cell)) (v : WriterState) → Going w all (row ∷ rest) requests u → AddsCells u row (Ok false) u → LetsGo u v → Going w all (row ∷ rest) (requests ++ u.bytes ∷ []) v
  one_sent row rest v g adds go =
      let a = adds g.waiting g.holds in
      let_go_next (row ∷ rest) v g (λ e. a.2 (none_counted g.waiting g.holds.count e)) (λ f. a.1 (fits_there row (row ∷ rest) g f)) go

  -- the rows so far, if types were due
  packed_due : (rest : List (List Cell)) (g : Going w all rest requests u) → w.types_due ≡ true → IsPacked (packing w) true g.cut g.waiting g.before rest
  packed_due rest g due = rw due at g.packed

  -- a row that does not fit alone is in no fitting cut
  stuck : (row : List Cell) (rest : List (List Cell)) (g : Going w all (row ∷ rest) requests u) → (CellsFit u g.waiting row → ⊥) → g.waiting ≡ [] → w.types_due ≡ true
      → HasFittingCut (packing w) ((rows_in g.cut ++ g.waiting) ++ row ∷ []) → ⊥
  stuck row rest g large none due c =
      let k = packing w in
      let alone : PartFits k (types_after k true g.cut) (row ∷ []) → ⊥ = λ f. large (fits_there row (row ∷ rest) g (rw (none, due) f)) in
      packed_stuck k g.cut g.before row rest (rw none at (packed_due (row ∷ rest) g due)) alone (rw g.packed.same at c)

module _ {w u : WriterState} {requests : List (List ℕ)} {before rows : List (List Cell)} where
  -- a run ends before these rows
  ends : (rest : List (List Cell)) (refusal : Option BulkRowError) (g : Going w (before ++ rows) rest requests u) → EndsBy refusal u g.waiting rest
      → (w.types_due ≡ true → refusal ≡ Some refused.TooLarge → HasFittingCut (packing w) ((rows_in g.cut ++ g.waiting) ++ next_of rest) → ⊥)
      → (w.types_due ≡ true → refusal ≡ None → IsFewest (packing w) (before ++ rows) g.cut) → CellsRunGives w before rows requests refusal u
  ends rest refusal g ended large fewest =
      let k = packing w in
      record {
        cut = g.cut;
        none_empty = g.packed.none_empty;
        waiting = g.waiting;
        holds = g.holds;
        dropped = rest;
        all_rows = ap (λ (l : List (List Cell)). l ++ rest) g.packed.same ∙ g.whole;
        bytes = g.bytes;
        full_parts = g.packed.full_so_far;
        left = g.settings;
        ended = ended;
        full_from_front = λ due. rw g.whole at (packed_full k w.types_due g.cut g.waiting g.before rest g.packed due);
        rows_fit = λ due. subst (HasFittingCut k) (sym g.packed.same) (packed_fits k g.cut g.waiting g.before rest (packed_due rest g due));
        too_large = large;
        fewest = fewest;
      }

  -- no row is left or waiting
  pub ends_all : Going w (before ++ rows) [] requests u → u.count ≡ 0 → CellsRunGives w before rows requests None u
  ends_all g none =
      let e = none_counted g.waiting g.holds.count none in
      ends [] None g (e, refl) (λ due is. absurd cc)
      (λ due is. packed_fewest (packing w) g.cut (before ++ rows) (rw (e, sym (append-nil g.before) ∙ g.whole) at (packed_due [] g due)))

  -- there was no memory for the request of the last rows, or for the one that is due
  pub ends_kept : Going w (before ++ rows) [] requests u → u.count ≢ 0 → CellsRunGives w before rows requests (Some refused.Memory) u
  ends_kept g some = ends [] (Some refused.Memory) g (inl (some_counted g.waiting g.holds.count some)) (λ due is. absurd cc) (λ due is. absurd cc)

  ends_due : (row : List Cell) (rest : List (List Cell)) → Going w (before ++ rows) (row ∷ rest) requests u → AddsCells u row (Ok false) u → CellsRunGives w before rows requests (Some refused.Memory) u
  ends_due row rest g adds = let a = adds g.waiting g.holds in ends (row ∷ rest) (Some refused.Memory) g (inl (a.2, a.0, a.1)) (λ due is. absurd cc) (λ due is. absurd cc)

  -- a row is refused
  pub ends_refused : (row : List Cell) (rest : List (List Cell)) (v : WriterState) (e : BulkRowError) → Going w (before ++ rows) (row ∷ rest) requests u → AddsCells u row (Err e) v → LacksRoom u row e
      → CellsRunGives w before rows requests (Some e) v
  ends_refused row rest v e g adds lacks = by e (adds g.waiting g.holds) lacks
    where
      other : (e : BulkRowError) → v ≡ u → EndsBy (Some e) u g.waiting (row ∷ rest) → (e ≢ refused.TooLarge) → CellsRunGives w before rows requests (Some e) v
      other e stays ended small = rw stays (ends (row ∷ rest) (Some e) g ended (λ due is. absurd (small cc)) (λ due is. absurd cc))

      by : (e : BulkRowError) → AddsAfter u g.waiting row (Err e) v → LacksRoom u row e → CellsRunGives w before rows requests (Some e) v
      by refused.MixedArity a lacks = other refused.MixedArity a.1 (a.0, refl) (λ is. cc)
      by refused.MixedTypes a lacks = other refused.MixedTypes a.2 (a.0, a.1, refl) (λ is. cc)
      by refused.TooLarge a lacks = rw a.3 (ends (row ∷ rest) (Some refused.TooLarge) g (a.0, a.1, a.2, refl) (λ due is. stuck row rest g a.1 a.2 due) (λ due is. absurd cc))
      by refused.Memory a lacks = other refused.Memory a.2 (inr ((a.0, a.1, refl), lacks refl)) (λ is. cc)

-- the request of the last rows was released
pub ends_sent : {w u : WriterState} {requests : List (List ℕ)} {before rows : List (List Cell)} (v : WriterState) → Going w (before ++ rows) [] requests u → u.count ≢ 0 → LetsGo u v → CellsRunGives w before rows (requests ++ u.bytes ∷ []) None v
ends_sent {u = u} v g some go = ends_all (let_go_next [] v g some tt go) (ap (λ (x : WriterState). x.count) (let_go_is u v some go))

-- ---- a row is offered

pub offered : {w u : WriterState} {all : List (List Cell)} {requests : List (List ℕ)} (row : List Cell) (rest : List (List Cell)) (m : WriterState) (more : List (List ℕ)) → Going w all (row ∷ rest) requests u → Offered u row requests m more
    → Going w all rest more m
offered row rest m more g (inl o) = rw o.1 (one_more row rest m g o.0)
offered row rest m more g (inr o) = rw o.4 (one_more row rest m (one_sent row rest o.0 g o.1 o.2) o.3)

pub offer_refused : {w u : WriterState} {before rows : List (List Cell)} {requests : List (List ℕ)} (row : List Cell) (rest : List (List Cell)) (m : WriterState) (more : List (List ℕ)) (e : BulkRowError)
    → Going w (before ++ rows) (row ∷ rest) requests u → OfferRefused u row requests e m more → CellsRunGives w before rows more (Some e) m
offer_refused row rest m more e g (inl o) = rw o.1 (ends_refused row rest m e g o.0 o.2)
offer_refused row rest m more e g (inr (inl o)) = rw (o.0, o.2, o.3) (ends_due row rest g o.1)
offer_refused row rest m more e g (inr (inr (inl o))) = rw o.4 (ends_refused row rest m e (one_sent row rest o.0 g o.1 o.2) o.3 o.5)
-- a row that is offered if none is waiting is not kept back
offer_refused {u = u} row rest m more e g (inr (inr (inr o))) =
    let sent = one_sent row rest o.0 g o.1 o.2 in
    let some : u.count ≢ 0 = λ e. (o.1 g.waiting g.holds).2 (none_counted g.waiting g.holds.count e) in
    absurd ((o.3 sent.waiting sent.holds).2 (none_counted sent.waiting sent.holds.count (ap (λ (x : WriterState). x.count) (let_go_is u o.0 some o.2))))

-- ---- a caller's own loop

streamed : {w : WriterState} {all : List (List Cell)} (rows rest : List (List Cell)) (u t : WriterState) (requests more : List (List ℕ)) → Going w all (rows ++ rest) requests u → StreamsCells u rows more t
    → Going w all rest (requests ++ more) t
streamed [] rest u t requests more g s = rw (s.0, s.1, append-nil) g
streamed (row ∷ rows) rest u t requests more g (inl s) = streamed rows rest s.0 t requests more (one_more row (rows ++ rest) s.0 g s.1) s.2
streamed (row ∷ rows) rest u t requests more g (inr s) =
    rw (s.6, ← append_assoc requests (u.bytes ∷ []) s.2) (streamed rows rest s.1 t (requests ++ u.bytes ∷ []) s.2 (one_more row (rows ++ rest) s.1 (one_sent row (rows ++ rest) s.0 g s.3 s.4) s.5) s.7)

pub cells_sent : (w u v : WriterState) (before rows : List (List Cell)) (requests : List (List ℕ)) → HoldsCells w before → StreamsCells w rows requests u → u.count ≢ 0 → LetsGo u v
    → CellsRunGives w before rows (requests ++ u.bytes ∷ []) None v
cells_sent w u v before rows requests h s some go =
    rw (append-nil rows) at (ends_sent {before = before} {rows = rows ++ []} v (streamed rows [] w u [] requests (begins w before (rows ++ []) h) s) some go)

pub cells_refused : (w u v : WriterState) (before rows later : List (List Cell)) (requests : List (List ℕ)) (row : List Cell) (e : BulkRowError) → HoldsCells w before → StreamsCells w rows requests u
    → AddsCells u row (Err e) v → LacksRoom u row e → CellsRunGives w before (rows ++ row ∷ later) requests (Some e) v
cells_refused w u v before rows later requests row e h s adds lacks = ends_refused row later v e (streamed rows (row ∷ later) w u [] requests (begins w before (rows ++ row ∷ later) h) s) adds lacks
