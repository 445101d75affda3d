-- What `bulk` prints for rows.
use Rattle.std.proofs.Common.{◌≡◌, ℕ, ◌-◌, Bool, true, List, [], length, map, ◌++◌, Option, Result, Ok, Err, Some, None, IfOk, refl, sym, subst, ◌∙◌}
use Rattle.std.proofs.lemmas.List.Elements.{All-nil}
use Rattle.mysql_cuts.specs.declared.rule.BulkRule.{BulkRule}
use Rattle.mysql_cuts.specs.Cut.{IsFewest, ends_after}
use Rattle.mysql_cuts.specs.Fewest.{weights, NamesFewest}
use Rattle.mysql_values.specs.Value.{Content}
use Rattle.mysql_values.specs.declared.param_type.ParamType.{ParamType}
use Rattle.mysql_bulk.specs.declared.error.BulkExecuteRequestBuilderError.{BulkExecuteRequestBuilderError}
use Rattle.mysql_bulk.specs.declared.error.BulkRowError.{BulkRowError}
use Rattle.mysql_bulk.specs.Builder.{BuilderState}
use Rattle.mysql_bulk.specs.BulkValue.{Cell}
use Rattle.mysql_bulk.specs.Request.{BulkRequest}
use Rattle.mysql_bulk.specs.Row.{first_length, row_size, rows_packing}
use Rattle.mysql_bulk.specs.RequestWriter.{WriterState}
use Rattle.mysql_bulk.specs.ValueRows.{HoldsCells, Spells, writer_of}
use Rattle.mysql_bulk.specs.ValuesRun.{CellsRunGives}
use Rattle.mysql_bulk.specs.WholeRun.{IsNew, OfRows, RunGives}
use Rattle.mysql_program.specs.Answer.{Answer, done, refused_by}
use Rattle.mysql_program.specs.BulkCall.{BulkCall}
use Rattle.mysql_program.specs.Bulk.{AnswersCells, AnswersRows, builder_of, last_lines, bulk_refusal_name, row_refusal_name, bytes_lines, request_lines}

pub new_builder : (call : BulkCall) → IsNew (builder_of call)
new_builder call = record { arity = refl; types_due = refl; waiting = refl }

-- the ends of a fewest cut are those of one by the rows' sizes
pub names_fewest : (law : (rule : BulkRule) (limit : ℕ) (rows : List (List Content)) (cut : List (List (List Content))) →
    IsFewest (rows_packing rule limit (first_length rows)) rows cut → NamesFewest (weights rule limit (first_length rows)) (map row_size rows) (ends_after 0 cut))
    (call : BulkCall) (rows : List (List Content)) (requests : List BulkRequest) (ends : List ℕ) (refusal : Option BulkExecuteRequestBuilderError) (left : BuilderState)
    → RunGives (builder_of call) rows requests ends refusal left → refusal ≡ None → NamesFewest (weights call.rule (call.max_allowed_packet - 4) (first_length rows)) (map row_size rows) ends
names_fewest law call rows requests ends refusal left gives none =
    subst (NamesFewest (weights call.rule (call.max_allowed_packet - 4) (first_length rows)) (map row_size rows)) (sym gives.ends_are)
    (law call.rule (call.max_allowed_packet - 4) rows gives.cut (gives.fewest (new_builder call) none))

-- a run that was refused
pub was_refused : {E : Type 0} (call : BulkCall) (rows : List (List Content)) (requests : List BulkRequest) (ends : List ℕ) (e : BulkExecuteRequestBuilderError) (left : BuilderState) (text name : List ℕ) (r : Result Answer E)
    → RunGives (builder_of call) rows requests ends (Some e) left
    → OfRows (Some e)
    → name ≡ bulk_refusal_name e
    → text ≡ request_lines requests
    → IfOk r (λ answer. answer ≡ refused_by text name)
    → IfOk r (AnswersRows call rows)
was_refused call rows requests ends e left text name (Ok answer) gives of_rows named lines is =
    record { requests = requests; ends = ends; refusal = Some e; left = left; gives = gives; of_rows = of_rows; shown = is ∙ rw (lines, named) refl }
was_refused call rows requests ends e left text name (Err error) gives of_rows named lines is = tt

-- a run that sent all rows
pub was_sent : {E : Type 0} (call : BulkCall) (rows : List (List Content)) (requests : List BulkRequest) (ends : List ℕ) (left : BuilderState) (text : List ℕ) (count row_count : ℕ) (fewest : Bool) (r : Result Answer E)
    → RunGives (builder_of call) rows requests ends None left
    → text ≡ request_lines requests
    → count ≡ length requests
    → row_count ≡ length rows
    → fewest ≡ true
    → IfOk r (λ answer. answer ≡ done (text ++ last_lines count row_count fewest))
    → IfOk r (AnswersRows call rows)
was_sent call rows requests ends left text count row_count fewest (Ok answer) gives lines counted rows_counted sure is =
    record { requests = requests; ends = ends; refusal = None; left = left; gives = gives; of_rows = tt; shown = is ∙ rw (lines, counted, rows_counted, sure) refl }
was_sent call rows requests ends left text count row_count fewest (Err error) gives lines counted rows_counted sure is = tt

-- ---- rows under declared types

-- no row is waiting in the writer
new_writer_holds : (call : BulkCall) (types : List ParamType) (capacity : ℕ) → HoldsCells (writer_of (builder_of call) types capacity) []
new_writer_holds call types capacity = record { count = refl; size = refl; bytes = refl; taken = All-nil (Spells types); fits = λ some. absurd (some refl) }

-- what its run over these rows produces, and why it ended
run_gives : (call : BulkCall) (types : List ParamType) (w left : WriterState) (given rows : List (List Cell)) (requests : List (List ℕ)) (outcome refusal : Option BulkRowError)
    → w ≡ writer_of (builder_of call) types w.capacity
    → ((before : List (List Cell)) → HoldsCells w before → CellsRunGives w before given requests outcome left)
    → given ≡ rows
    → outcome ≡ refusal
    → CellsRunGives (writer_of (builder_of call) types w.capacity) [] rows requests refusal left
run_gives call types w left given rows requests outcome refusal settings run same said =
    let new = writer_of (builder_of call) types w.capacity in
    let holds = subst (λ (v : WriterState). HoldsCells v []) (sym settings) (new_writer_holds call types w.capacity) in
    let gives = subst (λ (v : WriterState). CellsRunGives v [] given requests outcome left) settings (run [] holds) in
    subst (λ (o : Option BulkRowError). CellsRunGives new [] rows requests o left) said (subst (λ (rs : List (List Cell)). CellsRunGives new [] rs requests outcome left) same gives)

-- a run that was refused
pub cells_refused : {E : Type 0} (call : BulkCall) (types : List ParamType) (w left : WriterState) (given rows : List (List Cell)) (requests : List (List ℕ)) (outcome : Option BulkRowError) (e : BulkRowError) (text name : List ℕ) (r : Result Answer E)
    → w ≡ writer_of (builder_of call) types w.capacity
    → ((before : List (List Cell)) → HoldsCells w before → CellsRunGives w before given requests outcome left)
    → given ≡ rows
    → outcome ≡ Some e
    → name ≡ row_refusal_name e
    → text ≡ bytes_lines requests
    → IfOk r (λ answer. answer ≡ refused_by text name)
    → IfOk r (AnswersCells call types rows)
cells_refused call types w left given rows requests outcome e text name (Ok answer) settings run same said named lines is = record {
  requests = requests;
  refusal = Some e;
  capacity = w.capacity;
  left = left;
  gives = run_gives call types w left given rows requests outcome (Some e) settings run same said;
  shown = is ∙ rw (lines, named) refl;
}
cells_refused call types w left given rows requests outcome e text name (Err error) settings run same said named lines is = tt

-- a run that sent all rows
pub cells_sent : {E : Type 0} (call : BulkCall) (types : List ParamType) (w left : WriterState) (given rows : List (List Cell)) (requests : List (List ℕ)) (outcome : Option BulkRowError) (text : List ℕ) (count row_count : ℕ) (r : Result Answer E)
    → w ≡ writer_of (builder_of call) types w.capacity
    → ((before : List (List Cell)) → HoldsCells w before → CellsRunGives w before given requests outcome left)
    → given ≡ rows
    → outcome ≡ None
    → text ≡ bytes_lines requests
    → count ≡ length requests
    → row_count ≡ length rows
    → IfOk r (λ answer. answer ≡ done (text ++ last_lines count row_count true))
    → IfOk r (AnswersCells call types rows)
cells_sent call types w left given rows requests outcome text count row_count (Ok answer) settings run same said lines counted rows_counted is = record {
  requests = requests;
  refusal = None;
  capacity = w.capacity;
  left = left;
  gives = run_gives call types w left given rows requests outcome None settings run same said;
  shown = is ∙ rw (lines, counted, rows_counted) refl;
}
cells_sent call types w left given rows requests outcome text count row_count (Err error) settings run same said lines counted rows_counted is = tt
