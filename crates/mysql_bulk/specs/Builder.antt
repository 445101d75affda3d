-- A builder of bulk requests, and its steps.
use Rattle.std.specs.Prelude.{◌≡◌, ◌≢◌, ℕ, ◌+◌, ◌^◌, ◌<◌, ◌≤◌, Bool, true, false, if◌then◌else◌, List, [], ◌∷◌, ◌++◌, length, Option, Some, None, Result, Ok, Err, map, All, position, not, IsTrue, unwrap_or}
use Rattle.std.specs.Global.{Vec}
use Rattle.std.specs.List.{list_any}
use Rattle.mysql_cuts.specs.declared.rule.BulkRule.{BulkRule}
use Rattle.mysql_cuts.specs.Cut.{Packing, PartFits, rows_in, request_size}
use Rattle.mysql_values.specs.declared.params.Params.{Params}
use Rattle.mysql_values.specs.declared.param_type.ParamType.{ParamType}
use Rattle.mysql_values.specs.declared.value.Value.{Value}
use Rattle.mysql_values.specs.Params as given_by
use Rattle.mysql_values.specs.Value.{Content}
use Rattle.mysql_values.specs.ValueDeserializer.{has_bytes}
use Rattle.mysql_bulk.specs.declared.error.BulkColumnTypeError.{BulkColumnTypeError}
use Rattle.mysql_bulk.specs.declared.error.BulkExecuteRequestError.{BulkExecuteRequestError}
use Rattle.mysql_bulk.specs.declared.error.BulkExecuteRequestError.TheVariants.{MixedArity, MixedTypes, RowTooLarge, MemoryRow, NoParams, Memory}
use Rattle.mysql_bulk.specs.declared.error.BulkExecuteRequestBuilderError.{BulkExecuteRequestBuilderError}
use Rattle.mysql_bulk.specs.declared.error.BulkExecuteRequestBuilderError.TheVariants as refused
use Rattle.mysql_bulk.specs.declared.error.BulkRowError.{BulkRowError}
use Rattle.mysql_bulk.specs.declared.error.BulkRowError.TheVariants as copy_refused
use Rattle.mysql_bulk.specs.ColumnTypes.{is_declarable, TakesTypes, types_of_rows, types_so_far}
use Rattle.mysql_bulk.specs.ParamValue.{with_indicator}
use Rattle.mysql_bulk.specs.Request.{BulkRequest, request_flags, request_bytes}
use Rattle.mysql_bulk.specs.Row.{contents_of_row, first_length, OneLength, rows_packing}
use Rattle.mysql_bulk.specs.BuilderRows.{IsFlat, waiting_rows}

-- the settings of a builder, and its rows
pub record BuilderState : Type 0 where
  pub stmt_id : ℕ
  -- the packet limit in bytes
  pub limit : ℕ
  -- each row's results are requested
  pub results : Bool
  pub rule : BulkRule
  -- the parameters' names, in the order of the statement
  pub names : Option (List (Vec ℕ))
  -- the columns' types, if they were declared
  pub columns : Option (List ParamType)
  -- the number of values of a row, once a row was accepted or types were declared
  pub arity : Option ℕ
  -- the next request sends types
  pub types_due : Bool
  pub waiting : List (List Content)

-- a builder, with the numbers of values and of types that its lists can hold without more memory
pub record Builder : Type 0 where
  pub state : BuilderState
  pub values_capacity : ℕ
  pub types_capacity : ℕ

-- a builder without its capacity, or the error
abbrev pub state_in : {E : Type 0} → Result Builder E → Result BuilderState E
state_in (Ok builder) = Ok builder.state
state_in (Err e) = Err e

-- a builder with these settings and a given number of rows, whose values are in one list
abbrev pub builder_state : (stmt_id limit : ℕ) (results : Bool) → BulkRule → (names : Option (List (Vec ℕ))) → (columns : Option (List ParamType)) → (arity : Option ℕ) → (types_due : Bool) → (count : ℕ) → List Content → BuilderState
builder_state stmt_id limit results rule names columns arity types_due count values = record {
  stmt_id = stmt_id;
  limit = limit;
  results = results;
  rule = rule;
  names = names;
  columns = columns;
  arity = arity;
  types_due = types_due;
  waiting = waiting_rows arity count values;
}

-- how the requests of rows of this length are measured
abbrev pub packing : BuilderState → ℕ → Packing (List Content)
packing s arity = rows_packing s.rule s.limit arity

-- ---- declaring types

-- there are as many columns as types, and the next request sends them; or this is the first type that can't be declared
abbrev pub Declares : BuilderState → List ParamType → Result BuilderState BulkColumnTypeError → Type 0
Declares s types (Ok t) = All (λ kind. IsTrue (is_declarable kind)) types × (t ≡ record s { columns = Some types; arity = Some (length types); types_due = true })
Declares s types (Err e) = position (λ kind. not (is_declarable kind)) types ≡ Some e.place

-- ---- adding a row

-- a row of this length may follow those that were accepted
abbrev pub TakesArity : Option ℕ → ℕ → Type 0
TakesArity None n = Unit {0}
TakesArity (Some arity) n = n ≡ arity

-- a row may be next: it has that length, and the declared types can encode its values
abbrev pub TakesRow : BuilderState → List Content → Type 0
TakesRow s row = TakesArity s.arity (length row) × TakesTypes s.columns row

-- the row fits in the open request
abbrev pub RowFits : BuilderState → List Content → Type 0
RowFits s row = PartFits (packing s (length row)) s.types_due (s.waiting ++ row ∷ [])

-- the state after a row is accepted
abbrev pub after_row : BuilderState → List Content → BuilderState
after_row s row = record s { arity = Some (length row); waiting = s.waiting ++ row ∷ [] }

-- the row is accepted; or returned, because it doesn't fit with the waiting rows; or refused
abbrev pub Adds : BuilderState → Vec Value → Result (Option (Vec Value)) BulkExecuteRequestError → BuilderState → Type 0
Adds s row (Ok None) t = TakesRow s (contents_of_row row) × RowFits s (contents_of_row row) × (t ≡ after_row s (contents_of_row row))
Adds s row (Ok (Some back)) t = TakesRow s (contents_of_row row) × (RowFits s (contents_of_row row) → ⊥) × (s.waiting ≢ []) × (back ≡ row) × (t ≡ s)
Adds s row (Err MixedArity) t = (TakesArity s.arity (length (contents_of_row row)) → ⊥) × (t ≡ s)
Adds s row (Err (MixedTypes back)) t = TakesArity s.arity (length (contents_of_row row)) × (TakesTypes s.columns (contents_of_row row) → ⊥) × (back ≡ row) × (t ≡ s)
Adds s row (Err (RowTooLarge back)) t = TakesRow s (contents_of_row row) × (RowFits s (contents_of_row row) → ⊥) × (s.waiting ≡ []) × (back ≡ row) × (t ≡ s)
Adds s row (Err (MemoryRow back)) t = TakesRow s (contents_of_row row) × RowFits s (contents_of_row row) × (back ≡ row) × (t ≡ s)
Adds s row (Err NoParams) t = ⊥
Adds s row (Err Memory) t = ⊥

-- the same, with an error of parameters or of rows
abbrev pub AddsRow : BuilderState → Vec Value → Result (Option (Vec Value)) BulkExecuteRequestBuilderError → BuilderState → Type 0
AddsRow s row (Ok back) t = Adds s row (Ok back) t
AddsRow s row (Err (refused.Request e)) t = Adds s row (Err e) t
AddsRow s row (Err (refused.Params e)) t = ⊥

-- a copy of a row is added: it is accepted, or doesn't fit with the waiting rows, or is refused
abbrev pub AddsCopy : BuilderState → List Content → Result Bool BulkRowError → BuilderState → Type 0
AddsCopy s row (Ok true) t = TakesRow s row × RowFits s row × (t ≡ after_row s row)
AddsCopy s row (Ok false) t = TakesRow s row × (RowFits s row → ⊥) × (s.waiting ≢ []) × (t ≡ s)
AddsCopy s row (Err copy_refused.MixedArity) t = (TakesArity s.arity (length row) → ⊥) × (t ≡ s)
AddsCopy s row (Err copy_refused.MixedTypes) t = TakesArity s.arity (length row) × (TakesTypes s.columns row → ⊥) × (t ≡ s)
AddsCopy s row (Err copy_refused.TooLarge) t = TakesRow s row × (RowFits s row → ⊥) × (s.waiting ≡ []) × (t ≡ s)
AddsCopy s row (Err copy_refused.Memory) t = TakesRow s row × RowFits s row × (t ≡ s)

-- parameters are added: their values form a row, or they are refused
abbrev pub AddsParams : BuilderState → Params → Result (Option (Vec Value)) BulkExecuteRequestBuilderError → BuilderState → Type 0
AddsParams s params (Ok back) t = (row : Vec Value) × (given_by.values_of params s.names ≡ Ok (contents_of_row row)) × Adds s row (Ok back) t
AddsParams s params (Err (refused.Request e)) t = (row : Vec Value) × (given_by.values_of params s.names ≡ Ok (contents_of_row row)) × Adds s row (Err e) t
AddsParams s params (Err (refused.Params e)) t = given_by.Refuses params s.names e × (t ≡ s)

-- ---- memory

-- the lists have capacity for a row of this length, and the rows can be counted
abbrev pub HasRoom : Builder → (arity : ℕ) → Type 0
HasRoom b arity =
    (length (rows_in b.state.waiting) + arity ≤ b.values_capacity)
    × (b.state.types_due ≡ true → arity ≤ b.types_capacity)
    × (length b.state.waiting + 1 < 2 ^ 64)

-- the lists have at least the capacity that they had
abbrev pub KeepsCapacity : Builder → Builder → Type 0
KeepsCapacity b c = (b.values_capacity ≤ c.values_capacity) × (b.types_capacity ≤ c.types_capacity)

-- they have capacity for a copy of a row, none of whose values has bytes
abbrev pub HasRoomForCopy : Builder → List Content → Type 0
HasRoomForCopy b row = HasRoom b (length row) × (list_any has_bytes row ≡ false)

-- ---- building a request

-- the request of these rows
pub record IsRequest (s : BuilderState) (rows : List (List Content)) (request : BulkRequest) : Type 0 where
  pub id : request.stmt_id ≡ s.stmt_id
  pub flags : request.bulk_flags ≡ request_flags s.types_due s.results
  pub types : request.types ≡ (if s.types_due then types_of_rows s.columns rows else [])
  pub values : request.values ≡ map with_indicator (rows_in rows)
  -- the declared types can encode them
  pub taken : All (TakesTypes s.columns) rows

-- the state after a request
abbrev pub after_request : BuilderState → BuilderState
after_request s = record s { types_due = s.rule.types_always; waiting = [] }

-- the bytes of a request of the waiting rows
abbrev pub waiting_size : BuilderState → ℕ
waiting_size s = request_size (packing s (first_length s.waiting)) s.types_due s.waiting

-- the waiting rows may be a request
abbrev pub WaitingFits : BuilderState → Type 0
WaitingFits s = PartFits (packing s (first_length s.waiting)) s.types_due s.waiting

-- the request of the waiting rows was built
pub record BuildsRequest (s : BuilderState) (request : BulkRequest) (t : BuilderState) : Type 0 where
  -- rows were waiting
  pub some : s.waiting ≢ []
  -- it contains their values, in order, and the types of their columns if these are due
  pub is_theirs : IsRequest s s.waiting request
  -- its size is that of rows of their sizes, and is allowed
  pub size : length (request_bytes request) ≡ waiting_size s
  pub fits : WaitingFits s
  -- no row waits any more
  pub left : t ≡ after_request s

-- the request of the waiting rows is built, without allocation
abbrev pub Builds : BuilderState → Result BulkRequest BulkExecuteRequestError → BuilderState → Type 0
Builds s (Ok request) t = BuildsRequest s request t
Builds s (Err NoParams) t = (s.waiting ≡ []) × (t ≡ s)
Builds s _ t = ⊥

-- ---- the invariant

-- the length of rows after these rows, which have one length
abbrev pub arity_after : Option ℕ → List (List Content) → Option ℕ
arity_after known [] = known
arity_after known (row ∷ rows) = Some (length row)

-- the invariant of a builder
pub record IsConsistent (s : BuilderState) : Type 0 where
  -- the waiting rows have one length, which the builder knows
  pub one_length : OneLength s.waiting
  pub arity : s.arity ≡ arity_after s.arity s.waiting
  -- the declared types can encode them
  pub taken : All (TakesTypes s.columns) s.waiting
  -- and they fit in a request
  pub fits : s.waiting ≢ [] → WaitingFits s

-- a number of rows wait, with a total size: their values are in one list, and the types of their columns so far in another
pub record IsStoredAs (s : BuilderState) (count size : ℕ) (values : List Content) (types : List ParamType) : Type 0 where
  pub limit_is : s.limit < 2 ^ 64
  pub rows_is : s.waiting ≡ waiting_rows s.arity count values
  pub flat : IsFlat s.arity count size values
  pub fits : s.waiting ≢ [] → PartFits (packing s (unwrap_or s.arity 0)) s.types_due s.waiting
  pub taken : All (TakesTypes s.columns) s.waiting
  pub types_is : types ≡ (if s.types_due then types_so_far s.columns s.waiting else [])
