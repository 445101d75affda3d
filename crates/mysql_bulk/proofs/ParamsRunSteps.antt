-- Runs of a builder over parameters: the values of each are a row.
use Rattle.std.proofs.Common.{◌≡◌, Bool, true, false, List, [], ◌∷◌, Option, Some, None, Result, Ok, Err, refl, sym, ap, subst}
use Rattle.std.specs.Prelude.{MatchOption, is_none}
use Rattle.std.specs.Global.{Vec}
use Rattle.mysql_values.specs.declared.params.Params.{Params}
use Rattle.mysql_values.specs.declared.value.Value.{Value}
use Rattle.mysql_values.specs.Value.{Content}
use Rattle.mysql_values.specs.Params as given_by
use Rattle.mysql_bulk.specs.declared.error.BulkExecuteRequestBuilderError.{BulkExecuteRequestBuilderError}
use Rattle.mysql_bulk.specs.declared.error.BulkExecuteRequestBuilderError.TheVariants as refused
use Rattle.mysql_bulk.specs.Request.{BulkRequest}
use Rattle.mysql_bulk.specs.Builder.{BuilderState, after_row, Adds, AddsRow, AddsParams, BuildsRequest}
use Rattle.mysql_bulk.specs.Row.{contents_of_row}
use Rattle.mysql_bulk.specs.Run.{Accepts, NextRow, RunState, NextRequest, answers}
use Rattle.mysql_bulk.specs.ParamsRun.{Names, GivesRowOfParams, AcceptsParamsUntilFull, NextRequestOfParams}
use Rattle.mysql_bulk.proofs.RunSteps.{state, Taken, taken_more, taken_full, taken_refused, carried_more, carried_full, carried_refused, next_refuses, next_builds}

-- the names are unchanged
names_stay : (s t : BuilderState) (rows : List (List Content)) → Accepts s rows t → t.names ≡ s.names
names_stay s t [] a = ap (λ (b : BuilderState). b.names) a
names_stay s t (row ∷ rows) a = names_stay (after_row s row) t rows a.2

module _ {S : Type 0} (steps : S → Option Params → S → Type 0) where
  module _ {s m : BuilderState} {rows left : S} (k : Taken (GivesRowOfParams steps s.names) s (None, rows) m (None, left)) (params : Params) (rest : S) (came : steps left (Some params) rest) where
    by_names : m.names ≡ s.names
    by_names = names_stay s m _ k.accepts

    gives_row : (row : Vec Value) → given_by.values_of params m.names ≡ Ok (contents_of_row row) → NextRow (GivesRowOfParams steps s.names) (None, left) (Some row) (None, rest)
    gives_row row v = (refl, (params, came, rw by_names at v))

    pub params_more : (t : BuilderState) → AddsParams m params (Ok None) t → Taken (GivesRowOfParams steps s.names) s (None, rows) t (None, rest)
    params_more t a = taken_more (GivesRowOfParams steps s.names) k a.0 rest (gives_row a.0 a.1) t a.2

    -- the next row does not fit with those that wait
    pub params_full : (t : BuilderState) (back : Vec Value) → AddsParams m params (Ok (Some back)) t → AcceptsParamsUntilFull steps s.names s None rows (Ok (Some back)) t rest
    params_full t back a = taken_full (GivesRowOfParams steps s.names) k a.0 rest (gives_row a.0 a.1) t back a.2

    -- the next parameters or their row are refused
    pub params_refused : (t : BuilderState) (e : BulkExecuteRequestBuilderError) → AddsParams m params (Err e) t → AcceptsParamsUntilFull steps s.names s None rows (Err e) t rest
    params_refused t (refused.Request e) a = taken_refused (GivesRowOfParams steps s.names) k a.0 rest (gives_row a.0 a.1) t e a.2
    params_refused t (refused.Params e) a =
        record {
          taken = k.taken;
          before = left;
          came = k.came;
          params = params;
          given = came;
          refused = rw by_names at a.0;
          accepts = subst (Accepts s _) (sym a.1) k.accepts;
        }

  -- a carried row is accepted first
  pub params_carried : (s m t : BuilderState) (row : Vec Value) (rows left : S) (r : Result (Option (Vec Value)) BulkExecuteRequestBuilderError) → Adds s row (Ok None) m
      → AcceptsParamsUntilFull steps m.names m None rows r t left → AcceptsParamsUntilFull steps s.names s (Some row) rows r t left
  params_carried s m t row rows left r a f = by r (subst (λ n. AcceptsParamsUntilFull steps n m None rows r t left) (ap (λ (b : BuilderState). b.names) a.2) f)
    where
      by : (r : Result (Option (Vec Value)) BulkExecuteRequestBuilderError) → AcceptsParamsUntilFull steps s.names m None rows r t left → AcceptsParamsUntilFull steps s.names s (Some row) rows r t left
      by (Ok last) k = carried_more (GivesRowOfParams steps s.names) s m t row rows left (Ok last) a k
      by (Err (refused.Request e)) k = carried_more (GivesRowOfParams steps s.names) s m t row rows left (Err e) a k
      by (Err (refused.Params e)) k = record {
        taken = row ∷ k.taken;
        before = k.before;
        came = ((None, rows), (refl, refl, refl), k.came);
        params = k.params;
        given = k.given;
        refused = k.refused;
        accepts = (a.0, a.1, rw a.2 at k.accepts);
      }

  -- it does not fit, or is refused
  pub params_carried_full : (s t : BuilderState) (row back : Vec Value) (rows : S) → AddsRow s row (Ok (Some back)) t → AcceptsParamsUntilFull steps s.names s (Some row) rows (Ok (Some back)) t rows
  params_carried_full s t row back rows a = carried_full (GivesRowOfParams steps s.names) s t row back rows a

  pub params_carried_refused : (s t : BuilderState) (row : Vec Value) (e : BulkExecuteRequestBuilderError) (rows : S) → AddsRow s row (Err e) t → AcceptsParamsUntilFull steps s.names s (Some row) rows (Err e) t rows
  params_carried_refused s t row (refused.Request e) rows a = carried_refused (GivesRowOfParams steps s.names) s t row e rows a
  params_carried_refused s t row (refused.Params e) rows a = absurd a

  -- ---- what a call of `next` leads to

  pub next_params_refuses : (names : Names) (s t : BuilderState) (carried taken after : Option (Vec Value)) (rows left : S) (ended : Bool) (e : BulkExecuteRequestBuilderError) → ended ≡ false → taken ≡ carried → after ≡ None
      → AcceptsParamsUntilFull steps names s taken rows (Err e) t left → NextRequestOfParams steps names (state s carried rows ended) (Some (Err e)) (state t after left true)
  next_params_refuses names s t carried taken after rows left ended (refused.Request e) g same none a = next_refuses (GivesRowOfParams steps names) s t carried taken after rows left ended e g same none a
  next_params_refuses names s t carried taken after rows left ended (refused.Params e) g same none a = record { going = g; no_row = rw (← same) a; carried = none; ended = refl }

  over_rows : (names : Names) (s t : RunState S) (built : Option BulkRequest) → NextRequest (GivesRowOfParams steps names) s (answers built) t → NextRequestOfParams steps names s (answers built) t
  over_rows names s t None n = n
  over_rows names s t (Some request) n = n

  pub next_params_builds : (names : Names) (s m t : BuilderState) (carried last : Option (Vec Value)) (rows left : S) (e ended : Bool) (built : Option BulkRequest) → e ≡ false
      → AcceptsParamsUntilFull steps names s carried rows (Ok last) m left → is_none last ≡ ended → MatchOption built ((m.waiting ≡ []) × (t ≡ m)) (λ request. BuildsRequest m request t)
      → NextRequestOfParams steps names (state s carried rows e) (answers built) (state t last left ended)
  next_params_builds names s m t carried last rows left e ended built g a l w =
      over_rows names (state s carried rows e) (state t last left ended) built (next_builds (GivesRowOfParams steps names) s m t carried last rows left e ended built g a l w)
