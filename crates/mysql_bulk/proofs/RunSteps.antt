-- Runs of a builder over rows.
use Rattle.std.proofs.Common.{◌≡◌, ◌≢◌, ◌+◌, ◌∙◌, ap, length, length-append, Bool, true, false, List, [], ◌∷◌, ◌++◌, Option, Some, None, Result, Ok, Err, refl, sym, subst, inr}
use Rattle.std.proofs.lemmas.List.{map_push}
use Rattle.std.proofs.iter.Next.{Yields-more}
use Rattle.std.specs.Iterator.{Yields}
use Rattle.std.specs.Global.{Vec}
use Rattle.mysql_values.specs.declared.value.Value.{Value}
use Rattle.mysql_values.specs.Value.{Content}
use Rattle.mysql_bulk.specs.declared.error.BulkExecuteRequestError.{BulkExecuteRequestError}
use Rattle.mysql_bulk.specs.declared.error.BulkExecuteRequestError.TheVariants.{MixedArity, MixedTypes, RowTooLarge, MemoryRow, NoParams}
use Rattle.mysql_bulk.specs.Row.{contents_of_row, contents_of_rows}
use Rattle.mysql_bulk.specs.Builder.{BuilderState}
use Rattle.mysql_bulk.specs.Builder.{TakesRow, RowFits, after_row, Adds, Builds, BuildsRequest}
use Rattle.mysql_bulk.specs.declared.error.BulkExecuteRequestBuilderError.TheVariants.{Request}
use Rattle.mysql_bulk.specs.Request.{BulkRequest}
use Rattle.mysql_bulk.specs.Run.{Accepts, NextRow, AcceptsUntilFull, RunState, AcceptedUntilFull, NextRequest, answers}
use Rattle.std.specs.Prelude.{IfSome, MatchOption, is_none, is_some, not}

-- one more row is accepted
pub Accepts-more : (s m t : BuilderState) (rows : List (List Content)) (row : List Content) → Accepts s rows m → TakesRow m row → RowFits m row → t ≡ after_row m row → Accepts s (rows ++ row ∷ []) t
Accepts-more s m t [] row a n f e =
    rw (← a) (n, f, e)
Accepts-more s m t (r ∷ rows) row a n f e = (a.0, a.1, Accepts-more (after_row s r) m t rows row a.2 n f e)

pub Accepts-append : (s m t : BuilderState) (rows others : List (List Content)) → Accepts s rows m → Accepts m others t → Accepts s (rows ++ others) t
Accepts-append s m t [] others a b = subst (λ s. Accepts s others t) a b
Accepts-append s m t (r ∷ rows) others a b = (a.0, a.1, Accepts-append (after_row s r) m t rows others a.2 b)

pub one_longer : (s t : BuilderState) (row : List Content) → t ≡ after_row s row → length t.waiting ≡ length s.waiting + 1
one_longer s t row e = ap (λ (b : BuilderState). length b.waiting) e ∙ length-append s.waiting (row ∷ [])

-- a refusal leaves the state unchanged
pub Adds-refused : (s t : BuilderState) (row : Vec Value) (e : BulkExecuteRequestError) → Adds s row (Err e) t → t ≡ s
Adds-refused s t row MixedArity a = a.1
Adds-refused s t row (MixedTypes back) a = a.3
Adds-refused s t row (RowTooLarge back) a = a.4
Adds-refused s t row (MemoryRow back) a = a.3
Adds-refused s t row e a = absurd a

abbrev pub state : {S : Type 0} → BuilderState → Option (Vec Value) → S → Bool → RunState S
state s carried rows ended = record { builder = s; carried = carried; rows = rows; ended = ended }

-- a list of an empty type is empty
pub none_waits : {X : Type 0} (xs : List X) → (xs ≢ [] → false ≡ true) → xs ≡ []
none_waits [] h = refl
none_waits (x ∷ xs) h = let e : false ≡ true = h (λ e. cc) in cc

pub none_from : {X : Type 0} (o : Option X) → is_some o ≡ false → o ≡ None
none_from None h = refl
none_from (Some x) h = cc

pub is_none_from : {X : Type 0} (o : Option X) (b : Bool) → is_some o ≡ not b → is_none o ≡ b
is_none_from None true h = refl
is_none_from None false h = let e : false ≡ true = h in cc
is_none_from (Some x) true h = let e : true ≡ false = h in cc
is_none_from (Some x) false h = refl

pub none_built : (s t : BuilderState) (e : BulkExecuteRequestError) → Builds s (Err e) t → (s.waiting ≡ []) × (t ≡ s)
none_built s t NoParams b = b
none_built s t e b = absurd b

module _ {S : Type 0} (steps : S → Option (Vec Value) → S → Type 0) where
  -- some of the next rows were accepted, from one place of the input to another
  pub record Taken (s : BuilderState) (start : Option (Vec Value) × S) (t : BuilderState) (place : Option (Vec Value) × S) : Type 0 where
    pub taken : List (Vec Value)
    pub came : Yields (NextRow steps) start taken place
    pub accepts : Accepts s (contents_of_rows taken) t

  pub taken_none : (s : BuilderState) (start : Option (Vec Value) × S) → Taken s start s start
  taken_none s start = record { taken = []; came = refl; accepts = refl }

  module _ {s m : BuilderState} {start place : Option (Vec Value) × S} (k : Taken s start m place) (row : Vec Value) (rest : S) (next : NextRow steps place (Some row) (None, rest)) where
    -- the next row is accepted too
    pub taken_more : (t : BuilderState) → Adds m row (Ok None) t → Taken s start t (None, rest)
    taken_more t a = record {
      taken = k.taken ++ row ∷ [];
      came = Yields-more (NextRow steps) start k.taken place row (None, rest) k.came next;
      accepts = subst (λ l. Accepts s l t) (sym (map_push contents_of_row k.taken row)) (Accepts-more s m t (contents_of_rows k.taken) (contents_of_row row) k.accepts a.0 a.1 a.2);
    }

    -- it does not fit with those that wait
    pub taken_full : (t : BuilderState) (back : Vec Value) → Adds m row (Ok (Some back)) t → AcceptsUntilFull steps s start.0 start.1 (Ok (Some back)) t rest
    taken_full t back a = rw (a.3, a.4) (k.taken, (place, k.came, next), k.accepts, (a.0, a.1, a.2, refl, refl))

    -- it is refused
    pub taken_refused : (t : BuilderState) (e : BulkExecuteRequestError) → Adds m row (Err e) t → AcceptsUntilFull steps s start.0 start.1 (Err e) t rest
    taken_refused t e a =
        let same = Adds-refused m t row e a in
        let R : BuilderState → Type 0 = λ u. AcceptsUntilFull steps s start.0 start.1 (Err e) u rest in
        let A : BuilderState → Type 0 = λ u. Adds m row (Err e) u in
        subst R (sym same) (k.taken, row, (place, k.came, next), k.accepts, subst A same a)

  -- no row is left
  pub taken_end : {s m : BuilderState} {rows left : S} (rest : S) → Taken s (None, rows) m (None, left) → steps left None rest → AcceptsUntilFull steps s None rows (Ok None) m rest
  taken_end {left = left} rest k came = (k.taken, ((None, left), k.came, (refl, came)), k.accepts, tt)

  -- a carried row is accepted before others
  pub carried_more : (s m t : BuilderState) (row : Vec Value) (rows left : S) (r : Result (Option (Vec Value)) BulkExecuteRequestError) → Adds s row (Ok None) m → AcceptsUntilFull steps m None rows r t left → AcceptsUntilFull steps s (Some row) rows r t left
  carried_more s m t row rows left (Ok last) a f =
      (row ∷ f.0, (f.1.0, ((None, rows), (refl, refl, refl), f.1.1), f.1.2), (a.0, a.1, rw a.2 at f.2), f.3)
  carried_more s m t row rows left (Err e) a f =
      (row ∷ f.0, f.1, (f.2.0, ((None, rows), (refl, refl, refl), f.2.1), f.2.2), (a.0, a.1, rw a.2 at f.3), f.4)

  pub carried_full : (s t : BuilderState) (row back : Vec Value) (rows : S) → Adds s row (Ok (Some back)) t → AcceptsUntilFull steps s (Some row) rows (Ok (Some back)) t rows
  carried_full s t row back rows a = taken_full (taken_none s (Some row, rows)) row rows (refl, refl, refl) t back a

  pub carried_refused : (s t : BuilderState) (row : Vec Value) (e : BulkExecuteRequestError) (rows : S) → Adds s row (Err e) t → AcceptsUntilFull steps s (Some row) rows (Err e) t rows
  carried_refused s t row e rows a = taken_refused (taken_none s (Some row, rows)) row rows (refl, refl, refl) t e a

  -- ---- what a call of `next` leads to

  full_from : (m : BuilderState) (last : Option (Vec Value)) → IfSome last (λ row. Adds m row (Ok (Some row)) m) → IfSome last (λ row. TakesRow m (contents_of_row row) × (RowFits m (contents_of_row row) → ⊥))
  full_from m None a = tt
  full_from m (Some row) a = (a.0, a.1)

  accepted_until : (s m t : BuilderState) (carried last : Option (Vec Value)) (rows left : S) (e f : Bool) → e ≡ false → AcceptsUntilFull steps s carried rows (Ok last) m left
      → AcceptedUntilFull steps (state s carried rows e) m (state t last left f)
  accepted_until s m t carried last rows left e f g a = record { going = g; taken = a.0; came = a.1; accepts = a.2; full = full_from m last a.3 }

  -- the carried row was taken from the run, which then has none
  pub next_refuses : (s t : BuilderState) (carried taken after : Option (Vec Value)) (rows left : S) (e : Bool) (err : BulkExecuteRequestError) → e ≡ false → taken ≡ carried → after ≡ None → AcceptsUntilFull steps s taken rows (Err err) t left
      → NextRequest steps (state s carried rows e) (Some (Err (Request err))) (state t after left true)
  next_refuses s t carried taken after rows left e err g same none a = record { going = g; taken = a.0; row = a.1; came = rw (← same) a.2; accepts = a.3; refused = a.4; carried = none; ended = refl }

  -- rows were added, and then the request of those that wait was built, if any wait
  pub next_builds : (s m t : BuilderState) (carried last : Option (Vec Value)) (rows left : S) (e ended : Bool) (built : Option BulkRequest) → e ≡ false → AcceptsUntilFull steps s carried rows (Ok last) m left
      → is_none last ≡ ended → MatchOption built ((m.waiting ≡ []) × (t ≡ m)) (λ request. BuildsRequest m request t)
      → NextRequest steps (state s carried rows e) (answers built) (state t last left ended)
  next_builds s m t carried None rows left e ended None g a l w =
      rw w.1 (inr (record { accepted = accepted_until s m m carried None rows left e ended g a; carried = refl; waiting = w.0; ended = sym l }))
  next_builds s m t carried (Some row) rows left e ended None g a l w = absurd (a.3.2 w.0)
  next_builds s m t carried last rows left e ended (Some request) g a l w = record { full = m; accepted = accepted_until s m t carried last rows left e ended g a; builds = w; ended = sym l }
