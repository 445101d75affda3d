-- A writer of bulk requests: a builder that keeps its rows as the bytes of their request.
use Rattle.std.specs.Prelude.{◌≡◌, ◌≢◌, ℕ, ◌+◌, ◌*◌, ◌^◌, ◌<◌, ◌≤◌, ◌==◌, Bool, true, false, if◌then◌else◌, List, [], ◌∷◌, ◌++◌, length, Some, None, Result, Ok, Err, map, All, sum_by}
use Rattle.std.specs.List.{flat_map}
use Rattle.mysql_cuts.specs.declared.rule.BulkRule.{BulkRule}
use Rattle.mysql_cuts.specs.Cut.{PartFits, rows_in}
use Rattle.mysql_values.specs.declared.param_type.ParamType.{ParamType}
use Rattle.mysql_values.specs.declared.value_ref.ValueRef.{ValueRef}
use Rattle.mysql_values.specs.Value.{Content}
use Rattle.mysql_values.specs.ValueRef.{ref_content}
use Rattle.mysql_bulk.specs.declared.error.BulkColumnTypeError.{BulkColumnTypeError}
use Rattle.mysql_bulk.specs.declared.error.BulkExecuteRequestError.{BulkExecuteRequestError}
use Rattle.mysql_bulk.specs.declared.error.BulkRowError.{BulkRowError}
use Rattle.mysql_bulk.specs.Builder.{BuilderState, packing, AddsCopy, BuildsRequest, Builds, Declares, after_request}
use Rattle.mysql_bulk.specs.ColumnTypes.{TakesTypes, types_of_rows}
use Rattle.mysql_bulk.specs.Head.{head}
use Rattle.mysql_bulk.specs.ParamValue.{with_indicator, cell}
use Rattle.mysql_bulk.specs.Request.{BulkRequest, request_flags, request_bytes}
use Rattle.mysql_bulk.specs.Row.{row_size}

-- the settings of a writer, and what was written
pub record WriterState : Type 0 where
  pub stmt_id : ℕ
  -- the packet limit in bytes
  pub limit : ℕ
  -- each row's results are requested
  pub results : Bool
  pub rule : BulkRule
  -- the columns' declared types
  pub types : List ParamType
  -- the next request sends types
  pub types_due : Bool
  -- the number of rows written, and their bytes in the request
  pub count : ℕ
  pub size : ℕ
  -- the request so far, and the buffer's capacity
  pub bytes : List ℕ
  pub capacity : ℕ

-- the builder with the same settings in which these rows wait
abbrev pub as_builder : WriterState → List (List Content) → BuilderState
as_builder w rows = record {
  stmt_id = w.stmt_id;
  limit = w.limit;
  results = w.results;
  rule = w.rule;
  names = None;
  columns = Some w.types;
  arity = Some (length w.types);
  types_due = w.types_due;
  waiting = rows;
}

-- the request that a builder makes of the rows
abbrev pub request_of : BuilderState → List (List Content) → BulkRequest
request_of s rows = record {
  stmt_id = s.stmt_id;
  bulk_flags = request_flags s.types_due s.results;
  types = if s.types_due then types_of_rows s.columns rows else [];
  values = map with_indicator (rows_in rows);
}

-- the bytes of a request of these rows: none before the first row
abbrev pub bytes_so_far : BuilderState → List (List Content) → List ℕ
bytes_so_far s [] = []
bytes_so_far s (row ∷ rows) = request_bytes (request_of s (row ∷ rows))

-- exactly these rows were written
pub record Holds (w : WriterState) (rows : List (List Content)) : Type 0 where
  pub count : w.count ≡ length rows
  pub size : w.size ≡ sum_by row_size rows
  -- the bytes are those of the request that a builder makes of them
  pub bytes : w.bytes ≡ bytes_so_far (as_builder w rows) rows
  -- the declared types can encode them, and they fit in a request
  pub taken : All (TakesTypes (Some w.types)) rows
  pub fits : rows ≢ [] → PartFits (packing (as_builder w rows) (length w.types)) w.types_due rows

-- ---- its steps are those of the builder

-- a new builder with a limit, before types are declared
abbrev pub new_builder : ℕ → ℕ → BuilderState
new_builder stmt_id limit = record {
  stmt_id = stmt_id;
  limit = limit;
  results = false;
  rule = record { types_always = false; max_rows = None };
  names = None;
  columns = None;
  arity = None;
  types_due = true;
  waiting = [];
}

-- a writer can be created if a new builder accepts the types
abbrev pub StartsAsBuilder : ℕ → ℕ → List ParamType → Result WriterState BulkColumnTypeError → Type 0
StartsAsBuilder stmt_id limit types (Ok w) = Holds w [] × Declares (new_builder stmt_id limit) types (Ok (as_builder w []))
StartsAsBuilder stmt_id limit types (Err e) = Declares (new_builder stmt_id limit) types (Err e)

-- a row is offered: the answer is the builder's answer for a copy, and the writer then contains the builder's rows
abbrev pub AddsAsBuilder : WriterState → List Content → Result Bool BulkRowError → WriterState → Type 0
AddsAsBuilder w row result u =
    (rows : List (List Content)) → Holds w rows → (later : List (List Content)) × Holds u later × AddsCopy (as_builder w rows) row result (as_builder u later)

-- these bytes are those of the request that the builder builds
abbrev pub IsBuilt : BuilderState → List ℕ → Type 0
IsBuilt s bytes = (request : BulkRequest) × BuildsRequest s request (after_request s) × (bytes ≡ request_bytes request)

-- the request is finished: the writer is in the builder's state after building it
abbrev pub FinishesAsBuilder : WriterState → WriterState → Type 0
FinishesAsBuilder w u =
    (rows : List (List Content)) → Holds w rows → (result : Result BulkRequest BulkExecuteRequestError) × Holds u [] × Builds (as_builder w rows) result (as_builder u [])

-- ---- the bytes of a row

abbrev pub cells_bytes : List ValueRef → List ℕ
cells_bytes row = flat_map (λ v. cell (ref_content v)) row

-- what precedes the values
abbrev pub head_bytes : WriterState → List ℕ
head_bytes w = head.bytes (record { stmt_id = w.stmt_id; bulk_flags = request_flags w.types_due w.results; types = if w.types_due then w.types else [] })

-- one more row, with these bytes, was written after the others; the rows have this total size, and the buffer this capacity
abbrev pub with_row : WriterState → (before : List ℕ) → (size capacity : ℕ) → (row : List ℕ) → WriterState
with_row w before size capacity row = record w { count = w.count + 1; size = size; bytes = before ++ row; capacity = capacity }

-- the size of the next request's head
abbrev pub head_size : WriterState → ℕ
head_size w = 7 + (if w.types_due then 2 * length w.types else 0)

-- the bytes written for a row of this size: with the head before the first one
abbrev pub bytes_more : WriterState → (size : ℕ) → ℕ
bytes_more w size = if w.count == 0 then head_size w + (w.size + size) else size

-- the buffer has capacity for a row of this size, and the rows can be counted
abbrev pub HasRoomOf : WriterState → (size : ℕ) → Type 0
HasRoomOf w size = (length w.bytes + bytes_more w size ≤ w.capacity) × (w.count + 1 < 2 ^ 64)

abbrev pub HasRoom : WriterState → List Content → Type 0
HasRoom w row = HasRoomOf w (row_size row)
