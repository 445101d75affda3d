-- Bulk requests.
use Rattle.std.specs.Prelude.{ℕ, ◌+◌, ◌*◌, ◌++◌, Bool, if◌then◌else◌, List, [], length}
use Rattle.mysql_wire.specs.FlagMasks.{SEND_TYPES_TO_SERVER, SEND_UNIT_RESULTS}
use Rattle.mysql_wire.specs.Flags.{StmtBulkExecuteFlags}
use Rattle.mysql_values.specs.declared.param_type.ParamType.{ParamType}
use Rattle.mysql_bulk.specs.Head.{BulkHead, head}
use Rattle.mysql_bulk.specs.ParamValue.{ParamValue, contents, values_bytes}
use Rattle.mysql_bulk.specs.Row.{row_size}

-- the fields of a request
pub record BulkRequest : Type 0 where
  pub stmt_id : ℕ
  pub bulk_flags : StmtBulkExecuteFlags
  -- a type for each column, if they are sent
  pub types : List ParamType
  -- the values, row after row
  pub values : List ParamValue

-- SEND_TYPES_TO_SERVER if types are sent, SEND_UNIT_RESULTS if each row's results are requested
abbrev pub request_flags : Bool → Bool → StmtBulkExecuteFlags
request_flags types results = record { 0 = (if types then SEND_TYPES_TO_SERVER else 0) + (if results then SEND_UNIT_RESULTS else 0); 1 = record {} }

-- what precedes the values of a request
abbrev pub head_of : BulkRequest → BulkHead
head_of r = record { stmt_id = r.stmt_id; bulk_flags = r.bulk_flags; types = r.types }

-- the size of a request: its head, two bytes for each type, and its values
abbrev pub written_size : BulkRequest → ℕ
written_size r = 7 + 2 * length r.types + row_size (contents r.values)

-- the head, and the values row by row
abbrev pub request_bytes : BulkRequest → List ℕ
request_bytes r = head.bytes (head_of r) ++ (values_bytes r.values ++ [])
