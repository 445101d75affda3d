-- The command `bulk`.
use Rattle.std.specs.Prelude.{◌≡◌, ℕ, ◌-◌, true, false, List, [], ◌∷◌, ◌++◌, length, Option, Some, None, Bool, codes}
use Rattle.std.specs.List.{flat_map}
use Rattle.mysql_values.specs.declared.param_type.ParamType.{ParamType}
use Rattle.mysql_values.specs.Value.{Content}
use Rattle.mysql_bulk.specs.declared.error.BulkExecuteRequestError.TheVariants as error
use Rattle.mysql_bulk.specs.declared.error.BulkExecuteRequestBuilderError.{BulkExecuteRequestBuilderError}
use Rattle.mysql_bulk.specs.declared.error.BulkExecuteRequestBuilderError.TheVariants as builder_error
use Rattle.mysql_bulk.specs.declared.error.BulkRowError.{BulkRowError}
use Rattle.mysql_bulk.specs.declared.error.BulkRowError.TheVariants as refused
use Rattle.mysql_bulk.specs.BulkValue.{Cell}
use Rattle.mysql_bulk.specs.Request.{BulkRequest, request_bytes}
use Rattle.mysql_bulk.specs.Builder.{BuilderState}
use Rattle.mysql_bulk.specs.RequestWriter.{WriterState}
use Rattle.mysql_bulk.specs.ValueRows.{writer_of}
use Rattle.mysql_bulk.specs.ValuesRun.{CellsRunGives}
use Rattle.mysql_bulk.specs.WholeRun.{OfRows, RunGives}
use Rattle.mysql_show.specs.Fields.{said, Number, Digits, Flag}
use Rattle.mysql_show.specs.FieldText.{lines_of}
use Rattle.mysql_program.specs.Answer.{Answer, done, refused_by, usage}
use Rattle.mysql_program.specs.BulkCall.{BulkCall}
use Rattle.mysql_program.specs.RowText.{rows_of, value_rows}

-- the new builder for a call, before types are declared
abbrev pub builder_of : BulkCall → BuilderState
builder_of call = record {
  stmt_id = call.stmt_id;
  limit = call.max_allowed_packet - 4;
  results = false;
  rule = call.rule;
  names = None;
  columns = None;
  arity = None;
  types_due = true;
  waiting = [];
}

-- a line with a request's bytes
abbrev pub bytes_line : List ℕ → List ℕ
bytes_line bytes = lines_of (said (codes "request") (Digits bytes) ∷ [])

abbrev pub bytes_lines : List (List ℕ) → List ℕ
bytes_lines requests = flat_map bytes_line requests

abbrev pub request_line : BulkRequest → List ℕ
request_line request = bytes_line (request_bytes request)

abbrev pub request_lines : List BulkRequest → List ℕ
request_lines requests = flat_map request_line requests

-- the number of requests, the number of their rows, and whether no fitting cut of the rows has fewer
abbrev pub last_lines : ℕ → ℕ → Bool → List ℕ
last_lines requests rows fewest =
    lines_of (said (codes "requests") (Number requests) ∷ said (codes "rows") (Number rows) ∷ said (codes "fewest") (Flag fewest) ∷ [])

abbrev pub bulk_refusal_name : BulkExecuteRequestBuilderError → List ℕ
bulk_refusal_name (builder_error.Request error.MixedArity) = codes "MixedArity"
bulk_refusal_name (builder_error.Request (error.MixedTypes row)) = codes "MixedTypes"
bulk_refusal_name (builder_error.Request (error.RowTooLarge row)) = codes "RowTooLarge"
bulk_refusal_name (builder_error.Request (error.MemoryRow row)) = codes "MemoryRow"
bulk_refusal_name (builder_error.Request error.NoParams) = codes "NoParams"
bulk_refusal_name (builder_error.Request error.Memory) = codes "Memory"
bulk_refusal_name (builder_error.Params e) = codes "Params"

abbrev pub run_answer : List BulkRequest → ℕ → Option BulkExecuteRequestBuilderError → Answer
run_answer requests rows None = done (request_lines requests ++ last_lines (length requests) rows true)
run_answer requests rows (Some e) = refused_by (request_lines requests) (bulk_refusal_name e)

-- the rows are cut into the fewest requests of a new builder, each as full as possible; rows without such a cut are refused
pub record AnswersRows (call : BulkCall) (rows : List (List Content)) (answer : Answer) : Type 0 where
  pub requests : List BulkRequest
  pub ends : List ℕ
  pub refusal : Option BulkExecuteRequestBuilderError
  pub left : BuilderState
  pub gives : RunGives (builder_of call) rows requests ends refusal left
  pub of_rows : OfRows refusal
  pub shown : answer ≡ run_answer requests (length rows) refusal

-- without declared types, rows contain only NULL, bytes and integers; anything else is a bad call
abbrev pub AnswersValues : BulkCall → Option (List (List Content)) → Answer → Type 0
AnswersValues call None answer = answer ≡ usage
AnswersValues call (Some rows) answer = AnswersRows call rows answer

-- ---- rows under declared types

abbrev pub row_refusal_name : BulkRowError → List ℕ
row_refusal_name refused.MixedArity = codes "MixedArity"
row_refusal_name refused.MixedTypes = codes "MixedTypes"
row_refusal_name refused.TooLarge = codes "RowTooLarge"
row_refusal_name refused.Memory = codes "Memory"

abbrev pub cells_answer : List (List ℕ) → ℕ → Option BulkRowError → Answer
cells_answer requests rows None = done (bytes_lines requests ++ last_lines (length requests) rows true)
cells_answer requests rows (Some e) = refused_by (bytes_lines requests) (row_refusal_name e)

-- the same for rows of values, DEFAULT and IGNORE, whose sizes are those under the declared types
pub record AnswersCells (call : BulkCall) (types : List ParamType) (rows : List (List Cell)) (answer : Answer) : Type 0 where
  pub requests : List (List ℕ)
  pub refusal : Option BulkRowError
  pub capacity : ℕ
  pub left : WriterState
  pub gives : CellsRunGives (writer_of (builder_of call) types capacity) [] rows requests refusal left
  pub shown : answer ≡ cells_answer requests (length rows) refusal

abbrev pub AnswersCall : Option (List ParamType) → BulkCall → List (List Cell) → Answer → Type 0
AnswersCall None call rows answer = AnswersValues call (value_rows rows) answer
AnswersCall (Some types) call rows answer = AnswersCells call types rows answer

-- a text that isn't one of rows is a bad call
abbrev pub AnswersText : BulkCall → Option (List (List Cell)) → Answer → Type 0
AnswersText call None answer = answer ≡ usage
AnswersText call (Some rows) answer = AnswersCall call.columns call rows answer

abbrev pub IsBulkAnswer : BulkCall → List ℕ → Answer → Type 0
IsBulkAnswer call input answer = AnswersText call (rows_of input) answer
