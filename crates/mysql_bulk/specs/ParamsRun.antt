-- A run over parameters from an iterator, whose values are the rows.
use Rattle.std.specs.Prelude.{◌≡◌, true, false, ℕ, List, Option, Some, None, Result, Ok, Err}
use Rattle.std.specs.Global.{Vec}
use Rattle.std.specs.Iterator.{Yields}
use Rattle.mysql_values.specs.declared.params.Params.{Params}
use Rattle.mysql_values.specs.declared.params.ParamsError.{ParamsError}
use Rattle.mysql_values.specs.declared.value.Value.{Value}
use Rattle.mysql_values.specs.Params as given_by
use Rattle.mysql_bulk.specs.declared.error.BulkExecuteRequestBuilderError.{BulkExecuteRequestBuilderError}
use Rattle.mysql_bulk.specs.declared.error.BulkExecuteRequestBuilderError.TheVariants as refused
use Rattle.mysql_bulk.specs.declared.params_run.BulkParamsRequests.{BulkParamsRequests}
use Rattle.mysql_bulk.specs.Request.{BulkRequest}
use Rattle.mysql_bulk.specs.Builder.{Builder, BuilderState}
use Rattle.mysql_bulk.specs.Row.{contents_of_row, contents_of_rows}
use Rattle.mysql_bulk.specs.Run.{Accepts, NextRow, AcceptsUntilFull, RunState, NextRequest}

-- the names of the parameters of a statement, if it has any
abbrev pub Names : Type 0
Names = Option (List (Vec ℕ))

module _ {S : Type 0} (steps : S → Option Params → S → Type 0) (names : Names) where
  -- a call of the input returns parameters, whose values are the row, or the end
  abbrev pub GivesRowOfParams : S → Option (Vec Value) → S → Type 0
  GivesRowOfParams s None t = steps s None t
  GivesRowOfParams s (Some row) t = (params : Params) × steps s (Some params) t × (given_by.values_of params names ≡ Ok (contents_of_row row))

  -- rows were accepted, so that t contains them, up to parameters without values
  pub record StopsAtParams (s : BuilderState) (carried : Option (Vec Value)) (rows : S) (e : ParamsError) (t : BuilderState) (left : S) : Type 0 where
    pub taken : List (Vec Value)
    -- the input, before it returns those parameters
    pub before : S
    pub came : Yields (NextRow GivesRowOfParams) (carried, rows) taken (None, before)
    pub params : Params
    pub given : steps before (Some params) left
    pub refused : given_by.Refuses params names e
    pub accepts : Accepts s (contents_of_rows taken) t

  -- rows are accepted up to one that doesn't fit with the waiting rows, or the end, or one that is refused, or parameters without values
  abbrev pub AcceptsParamsUntilFull : BuilderState → Option (Vec Value) → S → Result (Option (Vec Value)) BulkExecuteRequestBuilderError → BuilderState → S → Type 0
  AcceptsParamsUntilFull s carried rows (Ok last) t left = AcceptsUntilFull GivesRowOfParams s carried rows (Ok last) t left
  AcceptsParamsUntilFull s carried rows (Err (refused.Request e)) t left = AcceptsUntilFull GivesRowOfParams s carried rows (Err e) t left
  AcceptsParamsUntilFull s carried rows (Err (refused.Params e)) t left = StopsAtParams s carried rows e t left

  -- rows were accepted, up to parameters without values
  pub record RefusesParams (s : RunState S) (e : ParamsError) (t : RunState S) : Type 0 where
    pub going : s.ended ≡ false
    pub no_row : StopsAtParams s.builder s.carried s.rows e t.builder t.rows
    pub carried : t.carried ≡ None
    pub ended : t.ended ≡ true

  -- the effect of a call for the next request: the same as over rows, unless parameters have no values
  abbrev pub NextRequestOfParams : RunState S → Option (Result BulkRequest BulkExecuteRequestBuilderError) → RunState S → Type 0
  NextRequestOfParams s None t = NextRequest GivesRowOfParams s None t
  NextRequestOfParams s (Some (Ok request)) t = NextRequest GivesRowOfParams s (Some (Ok request)) t
  NextRequestOfParams s (Some (Err (refused.Request e))) t = NextRequest GivesRowOfParams s (Some (Err (refused.Request e))) t
  NextRequestOfParams s (Some (Err (refused.Params e))) t = RefusesParams s e t

-- ---- the state of a run over an input with states I

module _ {I R : Type 0} where
  -- the row that a run has taken but not added
  abbrev pub carried_of : BulkParamsRequests I R → Option R
  carried_of run = run.carried

  -- the builder of a run
  abbrev pub builder_of : BulkParamsRequests I R → Builder
  builder_of run = run.builder.now

  -- two runs have the same reference to a builder
  abbrev pub SameBuilder : BulkParamsRequests I R → BulkParamsRequests I R → Type 0
  SameBuilder s t = t.builder.ghost_name ≡ s.builder.ghost_name

  -- the names by which parameters become rows
  abbrev pub names_of : BulkParamsRequests I R → Names
  names_of run = run.builder.now.state.names

-- the state of the iterator
abbrev pub state_of : {I : Type 0} → BulkParamsRequests I (Vec Value) → RunState I
state_of run = record { builder = run.builder.now.state; carried = run.carried; rows = run.params; ended = run.ended }
