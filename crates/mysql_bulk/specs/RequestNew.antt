-- The request of some rows.
use Rattle.std.specs.Prelude.{◌≡◌, ◌≢◌, ℕ, List, [], if◌then◌else◌, map, Result, Ok, Err}
use Rattle.mysql_wire.specs.Flags.{StmtBulkExecuteFlags}
use Rattle.mysql_cuts.specs.Cut.{rows_in}
use Rattle.mysql_values.specs.Value.{Content}
use Rattle.mysql_bulk.specs.declared.error.BulkExecuteRequestError.{BulkExecuteRequestError}
use Rattle.mysql_bulk.specs.declared.error.BulkExecuteRequestError.TheVariants.{MixedArity, MixedTypes, RowTooLarge, MemoryRow, NoParams, Memory}
use Rattle.mysql_bulk.specs.DeclaredTypes.{declared_types}
use Rattle.mysql_bulk.specs.Head.{sends_types}
use Rattle.mysql_bulk.specs.ParamValue.{with_indicator}
use Rattle.mysql_bulk.specs.Request.{BulkRequest}
use Rattle.mysql_bulk.specs.Row.{OneLength}

-- the request of these rows, with the declared types of their columns if types are sent
abbrev pub request_of : ℕ → StmtBulkExecuteFlags → List (List Content) → BulkRequest
request_of stmt_id bulk_flags rows = record {
  stmt_id = stmt_id;
  bulk_flags = bulk_flags;
  types = if sends_types bulk_flags then declared_types rows else [];
  values = map with_indicator (rows_in rows);
}

-- the result for the rows
abbrev pub MakesRequest : ℕ → StmtBulkExecuteFlags → List (List Content) → Result BulkRequest BulkExecuteRequestError → Type 0
MakesRequest stmt_id bulk_flags rows (Ok request) = (rows ≢ []) × OneLength rows × (request ≡ request_of stmt_id bulk_flags rows)
MakesRequest stmt_id bulk_flags rows (Err NoParams) = rows ≡ []
MakesRequest stmt_id bulk_flags rows (Err MixedArity) = (rows ≢ []) × (OneLength rows → ⊥)
MakesRequest stmt_id bulk_flags rows (Err Memory) = (rows ≢ []) × OneLength rows
MakesRequest stmt_id bulk_flags rows _ = ⊥
