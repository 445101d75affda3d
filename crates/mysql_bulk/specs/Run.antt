-- A run over an iterator's rows: which rows were taken, and what happened to them.
use Rattle.std.specs.Prelude.{◌≡◌, Bool, true, false, List, [], ◌∷◌, length, Option, Some, None, Result, Ok, Err, is_none, IfSome, MatchOption, option_to_list, ◌⊎◌, ◌+◌}
use Rattle.std.specs.Global.{Vec}
use Rattle.std.specs.Iterator.{YieldsThen, Count, count_unless, count_map}
use Rattle.mysql_values.specs.declared.value.Value.{Value}
use Rattle.mysql_values.specs.Value.{Content}
use Rattle.mysql_bulk.specs.declared.error.BulkExecuteRequestError.{BulkExecuteRequestError}
use Rattle.mysql_bulk.specs.declared.error.BulkExecuteRequestBuilderError.{BulkExecuteRequestBuilderError}
use Rattle.mysql_bulk.specs.declared.error.BulkExecuteRequestBuilderError.TheVariants.{Request, Params}
use Rattle.mysql_bulk.specs.declared.run.BulkRequests.{BulkRequests}
use Rattle.mysql_bulk.specs.Builder.{Builder, BuilderState, TakesRow, RowFits, after_row, Adds, BuildsRequest}
use Rattle.mysql_bulk.specs.Request.{BulkRequest}
use Rattle.mysql_bulk.specs.Row.{contents_of_row, contents_of_rows}

-- the rows are accepted in order
abbrev pub Accepts : BuilderState → List (List Content) → BuilderState → Type 0
Accepts s [] t = t ≡ s
Accepts s (row ∷ rows) t = TakesRow s row × RowFits s row × Accepts (after_row s row) rows t

module _ {S : Type 0} (steps : S → Option (Vec Value) → S → Type 0) where
  -- the next row: the one that was taken but not added, if there is one, otherwise the input's next one
  abbrev pub NextRowAfter : Option (Vec Value) → S → Option (Vec Value) → Option (Vec Value) × S → Type 0
  NextRowAfter None s r t = (t.0 ≡ None) × steps s r t.1
  NextRowAfter (Some row) s None t = ⊥
  NextRowAfter (Some row) s (Some x) t = (x ≡ row) × (t.0 ≡ None) × (t.1 ≡ s)

  abbrev pub NextRow : Option (Vec Value) × S → Option (Vec Value) → Option (Vec Value) × S → Type 0
  NextRow s r t = NextRowAfter s.0 s.1 r t

  -- rows are accepted up to one that doesn't fit with the waiting rows, or the end, or one that is refused
  abbrev pub AcceptsUntilFull : BuilderState → Option (Vec Value) → S → Result (Option (Vec Value)) BulkExecuteRequestError → BuilderState → S → Type 0
  AcceptsUntilFull s carried rows (Ok last) t left =
      (taken : List (Vec Value)) × YieldsThen NextRow (carried, rows) taken last (None, left) × Accepts s (contents_of_rows taken) t × IfSome last (λ row. Adds t row (Ok (Some row)) t)
  AcceptsUntilFull s carried rows (Err e) t left =
      (taken : List (Vec Value)) × (row : Vec Value) × YieldsThen NextRow (carried, rows) taken (Some row) (None, left) × Accepts s (contents_of_rows taken) t × Adds t row (Err e) t

-- the state of a run over an input with states S
pub record RunState (S : Type 0) : Type 0 where
  pub builder : BuilderState
  pub carried : Option (Vec Value)
  pub rows : S
  pub ended : Bool

-- the row that a run has taken but not added
abbrev pub carried_of : {I R : Type 0} → BulkRequests I R → Option R
carried_of run = run.carried

-- the builder of a run
abbrev pub builder_of : {I R : Type 0} → BulkRequests I R → Builder
builder_of run = run.builder.now

-- two runs have the same reference to a builder
abbrev pub SameBuilder : {I R : Type 0} → BulkRequests I R → BulkRequests I R → Type 0
SameBuilder s t = t.builder.ghost_name ≡ s.builder.ghost_name

-- the state of the iterator
abbrev pub state_of : {I : Type 0} → BulkRequests I (Vec Value) → RunState I
state_of run = record { builder = run.builder.now.state; carried = run.carried; rows = run.rows; ended = run.ended }

module _ {S : Type 0} (steps : S → Option (Vec Value) → S → Type 0) where
  -- rows were accepted, so that m contains them, up to one that didn't fit with the waiting rows and is kept now, or up to the end of the
  -- input
  pub record AcceptedUntilFull (s : RunState S) (m : BuilderState) (t : RunState S) : Type 0 where
    pub going : s.ended ≡ false
    pub taken : List (Vec Value)
    pub came : YieldsThen (NextRow steps) (s.carried, s.rows) taken t.carried (None, t.rows)
    pub accepts : Accepts s.builder (contents_of_rows taken) m
    pub full : IfSome t.carried (λ row. TakesRow m (contents_of_row row) × (RowFits m (contents_of_row row) → ⊥))

  -- rows were accepted, up to one that was refused
  pub record RefusesRow (s : RunState S) (e : BulkExecuteRequestError) (t : RunState S) : Type 0 where
    pub going : s.ended ≡ false
    pub taken : List (Vec Value)
    pub row : Vec Value
    pub came : YieldsThen (NextRow steps) (s.carried, s.rows) taken (Some row) (None, t.rows)
    pub accepts : Accepts s.builder (contents_of_rows taken) t.builder
    pub refused : Adds t.builder row (Err e) t.builder
    pub carried : t.carried ≡ None
    pub ended : t.ended ≡ true

  -- the input ends, and no row waits for a request
  pub record EndsEmpty (s t : RunState S) : Type 0 where
    pub accepted : AcceptedUntilFull s t.builder t
    pub carried : t.carried ≡ None
    pub waiting : t.builder.waiting ≡ []
    pub ended : t.ended ≡ true

  -- rows were accepted, and then the request of the waiting rows was built
  pub record SendsRequest (s : RunState S) (request : BulkRequest) (t : RunState S) : Type 0 where
    -- the builder, before it built the request
    pub full : BuilderState
    pub accepted : AcceptedUntilFull s full t
    pub builds : BuildsRequest full request t.builder
    -- if no row is kept, the input has ended
    pub ended : t.ended ≡ is_none t.carried

  -- the effect of a call for the next request
  abbrev pub NextRequest : RunState S → Option (Result BulkRequest BulkExecuteRequestBuilderError) → RunState S → Type 0
  NextRequest s None t = ((s.ended ≡ true) × (t ≡ s)) ⊎ EndsEmpty s t
  NextRequest s (Some (Ok request)) t = SendsRequest s request t
  NextRequest s (Some (Err (Request e))) t = RefusesRow s e t
  NextRequest s (Some (Err (Params e))) t = ⊥

-- the run's answer for the request that was built, if one was
abbrev pub answers : Option BulkRequest → Option (Result BulkRequest BulkExecuteRequestBuilderError)
answers None = None
answers (Some request) = Some (Ok request)

-- the answer is the request of the waiting rows, or none if no row waits
abbrev pub AnswersWaiting : BuilderState → Option (Result BulkRequest BulkExecuteRequestBuilderError) → BuilderState → Type 0
AnswersWaiting s answer t = (built : Option BulkRequest) × (answer ≡ answers built) × MatchOption built ((s.waiting ≡ []) × (t ≡ s)) (λ request. BuildsRequest s request t)

-- the most results that remain for an input with at most `left` rows
abbrev pub results_left : {S : Type 0} → (S → Count) → RunState S → Count
results_left left s = count_unless s.ended (count_map (λ n. length s.builder.waiting + length (option_to_list s.carried) + n + 1) (left s.rows))
