-- A whole run: all its requests, why it ended, and what it leaves.
use Rattle.std.specs.Prelude.{◌≡◌, ◌≢◌, ℕ, true, List, [], ◌∷◌, ◌++◌, length, Option, Some, None, Result, Ok, Err, Bool, All, option_map}
use Rattle.std.specs.Global.{Vec}
use Rattle.mysql_cuts.specs.Cut.{rows_in, NoneEmpty, FullFrom, IsFewest, IsFullFromFront, ends_after}
use Rattle.mysql_values.specs.declared.value.Value.{Value}
use Rattle.mysql_values.specs.Value.{Content}
use Rattle.mysql_bulk.specs.declared.error.BulkExecuteRequestError.{BulkExecuteRequestError}
use Rattle.mysql_bulk.specs.declared.error.BulkExecuteRequestError.TheVariants.{MemoryRow, Memory}
use Rattle.mysql_bulk.specs.declared.error.BulkExecuteRequestBuilderError.{BulkExecuteRequestBuilderError}
use Rattle.mysql_bulk.specs.declared.error.BulkExecuteRequestBuilderError.TheVariants.{Request, Params}
use Rattle.mysql_bulk.specs.Builder.{BuilderState, TakesRow, RowFits, IsRequest, Adds, BuildsRequest, after_request, arity_after}
use Rattle.mysql_bulk.specs.WholeRunRefusal.{RefusalOfRows, taken_front, measure}
use Rattle.mysql_bulk.specs.ColumnTypes.{TakesTypes}
use Rattle.mysql_bulk.specs.Request.{BulkRequest}
use Rattle.mysql_bulk.specs.Row.{contents_of_row, first_length, EqualLengths}

-- ---- the builder, before and after

-- a builder that was only created and set up
pub record IsNew (s : BuilderState) : Type 0 where
  -- its rows have the length of the declared types, if there are any
  pub arity : s.arity ≡ option_map length s.columns
  pub types_due : s.types_due ≡ true
  pub waiting : s.waiting ≡ []

-- whether types are due after the requests of these parts
abbrev pub due_after : BuilderState → List (List (List Content)) → Bool
due_after s [] = s.types_due
due_after s (part ∷ parts) = s.rule.types_always

-- the builder after these parts were sent, while these rows wait: its settings are unchanged
abbrev pub left_by : BuilderState → List (List (List Content)) → List (List Content) → BuilderState
left_by s cut waiting = record s {
  arity = arity_after s.arity (rows_in cut ++ waiting);
  types_due = due_after s cut;
  waiting = waiting;
}

-- ---- why a run ended

-- the builder refuses the next row, for this reason
pub record RefusesNextRow (t : BuilderState) (e : BulkExecuteRequestError) (dropped : List (List Content)) : Type 0 where
  pub row : Vec Value
  pub later : List (List Content)
  pub is_next : dropped ≡ contents_of_row row ∷ later
  pub refused : Adds t row (Err e) t

-- the request of the waiting rows is due: no row is left, or the next one is taken and doesn't fit with them
abbrev pub RequestIsDue : BuilderState → List (List Content) → Type 0
RequestIsDue t [] = t.waiting ≢ []
RequestIsDue t (row ∷ later) = (t.waiting ≢ []) × TakesRow t row × (RowFits t row → ⊥)

-- the rows have this length; there are none if no length is known
abbrev pub OfArity : Option ℕ → List (List Content) → Type 0
OfArity None rows = rows ≡ []
OfArity (Some n) rows = EqualLengths n rows

-- a builder that holds these rows
abbrev pub holding : BuilderState → List (List Content) → BuilderState
holding s part = record s { arity = Some (first_length part); waiting = part }

-- the request of each part was due when it was sent; these rows follow the last part
abbrev pub EachWasDue : BuilderState → List (List (List Content)) → List (List Content) → Type 0
EachWasDue s [] rest = Unit {0}
EachWasDue s (part ∷ parts) rest = RequestIsDue (holding s part) (rows_in parts ++ rest) × EachWasDue (after_request s) parts rest

-- why a run ended with this builder, before these rows
abbrev pub EndsBy : Option BulkExecuteRequestBuilderError → BuilderState → List (List Content) → Type 0
-- all rows were sent
EndsBy None t dropped = (t.waiting ≡ []) × (dropped ≡ [])
-- memory ran out for the result, and the rows of the request that was due wait
EndsBy (Some (Request Memory)) t dropped = RequestIsDue t dropped
EndsBy (Some (Request e)) t dropped = RefusesNextRow t e dropped
-- parameters had no values for a row
EndsBy (Some (Params e)) t dropped = dropped ≡ []

-- no allocation failed
abbrev pub HadMemory : Option BulkExecuteRequestBuilderError → Type 0
HadMemory (Some (Request (MemoryRow row))) = ⊥
HadMemory (Some (Request Memory)) = ⊥
HadMemory _ = Unit {0}

-- rows were refused, not parameters
abbrev pub OfRows : Option BulkExecuteRequestBuilderError → Type 0
OfRows (Some (Params e)) = ⊥
OfRows _ = Unit {0}

-- this is why these rows are refused, if they are; if parameters after them had no values, the rows were accepted
abbrev pub RefusalOfList : BuilderState → List (List Content) → Option BulkExecuteRequestBuilderError → Type 0
RefusalOfList s rows None = RefusalOfRows s rows None
RefusalOfList s rows (Some (Request e)) = RefusalOfRows s rows (Some e)
RefusalOfList s rows (Some (Params e)) = RefusalOfRows s rows None

-- ---- the result

-- each request is the one that the builder builds for its part
abbrev pub AreRequests : BuilderState → List (List (List Content)) → List BulkRequest → Type 0
AreRequests s [] [] = Unit {0}
AreRequests s (part ∷ parts) (request ∷ requests) = IsRequest s part request × AreRequests (after_request s) parts requests
AreRequests s [] (request ∷ requests) = ⊥
AreRequests s (part ∷ parts) [] = ⊥

-- A run of a builder over rows, those that waited before it first, returned these requests, ended with this error, if any, and left the
-- builder in this state.
pub record RunGives (s : BuilderState) (rows : List (List Content)) (requests : List BulkRequest) (ends : List ℕ) (refusal : Option BulkExecuteRequestBuilderError) (t : BuilderState) : Type 0 where
  -- the rows that were sent, one part for each request, none of them empty
  pub cut : List (List (List Content))
  pub none_empty : NoneEmpty cut
  -- the rows that were not accepted: the refused one, and those after it
  pub dropped : List (List Content)
  -- no row is lost: each was sent, waits, or was dropped, in this order
  pub all_rows : (rows_in cut ++ t.waiting) ++ dropped ≡ rows
  -- each request is the one that the builder builds for its part
  pub requests_are : AreRequests s cut requests
  -- the number of rows sent up to and including each request
  pub ends_are : ends ≡ ends_after 0 cut
  -- each part fits, and would not fit with the next row
  pub full_parts : FullFrom (measure s rows) s.types_due cut (t.waiting ++ dropped)
  -- the rows that were sent, and those that wait, have one length, which the builder now knows
  pub one_length : OfArity t.arity (rows_in cut ++ t.waiting)
  -- and the declared types can encode them
  pub taken : All (TakesTypes s.columns) (rows_in cut ++ t.waiting)
  -- a length that was known is unchanged
  pub arity_stays : (n : ℕ) → s.arity ≡ Some n → t.arity ≡ Some n
  -- each part was due when it was sent: no row was left, or the next one was taken and didn't fit with it
  pub each_was_due : EachWasDue s cut (t.waiting ++ dropped)
  -- the settings are unchanged; the length, and whether types are due, are those after what was sent and waits
  pub left : t ≡ left_by s cut t.waiting
  -- why it ended
  pub ended : EndsBy refusal t dropped
  -- on a new builder, no fitting cut of a prefix of its rows is ahead of these requests, however the run ends
  pub full_from_front : IsNew s → IsFullFromFront (measure s rows) (taken_front s rows) cut
  -- with enough memory it is refused exactly if a row is not taken or no cut of the rows fits
  pub refused : IsNew s → HadMemory refusal → RefusalOfList s rows refusal
  -- otherwise no fitting cut has fewer parts
  pub fewest : IsNew s → refusal ≡ None → IsFewest (measure s rows) rows cut

-- ---- parts of a run

-- the error of a part of a run that returns nothing else
abbrev pub refusal_of : Result (Unit {0}) BulkExecuteRequestError → Option BulkExecuteRequestBuilderError
refusal_of (Ok done) = None
refusal_of (Err e) = Some (Request e)

-- the request of the waiting rows is appended to these requests
abbrev pub PutsRequest : BuilderState → List BulkRequest → List BulkRequest → BuilderState → Type 0
PutsRequest s requests more t = (request : BulkRequest) × (more ≡ requests ++ request ∷ []) × BuildsRequest s request t
