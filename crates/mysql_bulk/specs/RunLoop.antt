-- A caller's own loop over a run: calls of `next` up to the first that returns no request.
use Rattle.std.specs.Prelude.{◌≡◌, false, ℕ, List, [], ◌∷◌, ◌++◌, Option, Some, None, Result, Ok, Err}
use Rattle.std.specs.Global.{Vec}
use Rattle.std.specs.Iterator.{Yields, YieldsThen}
use Rattle.mysql_values.specs.declared.params.Params.{Params}
use Rattle.mysql_values.specs.declared.params.ParamsError.{ParamsError}
use Rattle.mysql_values.specs.declared.value.Value.{Value}
use Rattle.mysql_values.specs.Params as given_by
use Rattle.mysql_values.specs.Value.{Content}
use Rattle.mysql_bulk.specs.declared.error.BulkExecuteRequestError.{BulkExecuteRequestError}
use Rattle.mysql_bulk.specs.declared.error.BulkExecuteRequestBuilderError.{BulkExecuteRequestBuilderError}
use Rattle.mysql_bulk.specs.declared.error.BulkExecuteRequestBuilderError.TheVariants as variant
use Rattle.mysql_bulk.specs.Builder.{IsConsistent}
use Rattle.mysql_bulk.specs.ParamsRun.{Names, GivesRowOfParams}
use Rattle.mysql_bulk.specs.Request.{BulkRequest}
use Rattle.mysql_bulk.specs.Row.{contents_of_row, contents_of_rows}
use Rattle.mysql_bulk.specs.Run.{RunState, NextRow}
use Rattle.mysql_bulk.specs.WholeRun.{RunGives}

-- the answers without a request: the end, or an error
abbrev pub last_answer : Option BulkExecuteRequestBuilderError → Option (Result BulkRequest BulkExecuteRequestBuilderError)
last_answer None = None
last_answer (Some e) = Some (Err e)

module _ {S : Type 0} (next : RunState S → Option (Result BulkRequest BulkExecuteRequestBuilderError) → RunState S → Type 0) where
  -- calls returned these requests
  abbrev pub GivesRequests : RunState S → List BulkRequest → RunState S → Type 0
  GivesRequests s [] t = s ≡ t
  GivesRequests s (request ∷ requests) t = (u : RunState S) × next s (Some (Ok request)) u × GivesRequests u requests t

  -- from the beginning of a run, calls returned these requests, and the next call none
  pub record WholeLoop (s : RunState S) (requests : List BulkRequest) (refusal : Option BulkExecuteRequestBuilderError) (u : RunState S) : Type 0 where
    pub consistent : IsConsistent s.builder
    pub carried : s.carried ≡ None
    pub going : s.ended ≡ false
    pub last : RunState S
    pub gave : GivesRequests s requests last
    pub ends : next last (last_answer refusal) u

module _ {S : Type 0} (steps : S → Option (Vec Value) → S → Type 0) where
  -- the input had exactly these rows, and the run returned everything that `build_all` returns for them
  pub record SentAllRows (s : RunState S) (requests : List BulkRequest) (u : RunState S) : Type 0 where
    pub rows : List (Vec Value)
    pub came : YieldsThen (NextRow steps) (None, s.rows) rows None (None, u.rows)
    pub ends : List ℕ
    pub gives : RunGives s.builder (s.builder.waiting ++ contents_of_rows rows) requests ends None u.builder

  -- the input had these rows, and then one that was refused: so is every list of rows that begins with them
  pub record RefusedRow (s : RunState S) (requests : List BulkRequest) (e : BulkExecuteRequestError) (u : RunState S) : Type 0 where
    pub rows : List (Vec Value)
    pub row : Vec Value
    pub came : YieldsThen (NextRow steps) (None, s.rows) rows (Some row) (None, u.rows)
    pub gives : (later : List (List Content))
        → (ends : List ℕ) × RunGives s.builder (s.builder.waiting ++ (contents_of_rows rows ++ contents_of_row row ∷ later)) requests ends (Some (variant.Request e)) u.builder

module _ {S : Type 0} (steps : S → Option Params → S → Type 0) (names : Names) where
  -- the parameters from the input had these rows, and the next ones had no values
  pub record RefusedParams (s : RunState S) (requests : List BulkRequest) (e : ParamsError) (u : RunState S) : Type 0 where
    pub rows : List (Vec Value)
    pub before : S
    pub came : Yields (NextRow (GivesRowOfParams steps names)) (None, s.rows) rows (None, before)
    pub params : Params
    pub given : steps before (Some params) u.rows
    pub refused : given_by.Refuses params names e
    pub ends : List ℕ
    pub gives : RunGives s.builder (s.builder.waiting ++ contents_of_rows rows) requests ends (Some (variant.Params e)) u.builder
