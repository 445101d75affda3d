-- A whole run of a writer over rows of values, DEFAULT and IGNORE.
use Rattle.std.specs.Prelude.{◌≡◌, ◌≢◌, ◌⊎◌, ℕ, Bool, true, false, List, [], ◌∷◌, ◌++◌, map, Option, Some, None, Result, Ok, Err}
use Rattle.std.specs.Global.{Vec}
use Rattle.mysql_cuts.specs.Cut.{FullFrom, HasFittingCut, IsFewest, IsFullFromFront, NoneEmpty, rows_in, types_after}
use Rattle.mysql_bulk.specs.declared.bulk_value.BulkValue.{BulkValue}
use Rattle.mysql_bulk.specs.declared.error.BulkRowError.{BulkRowError}
use Rattle.mysql_bulk.specs.declared.error.BulkRowError.TheVariants as refused
use Rattle.mysql_bulk.specs.BulkValue.{Cell, cell_of}
use Rattle.mysql_bulk.specs.RequestWriter.{WriterState}
use Rattle.mysql_bulk.specs.ValueRows.{AddsAfter, AddsCells, AreCellRequests, CellsFit, HasRoomFor, HoldsCells, LetsGo, Spells, packing}

abbrev pub cells_of_row : Vec BulkValue → List Cell
cells_of_row row = map cell_of row.items

abbrev pub cells_of_rows : List (Vec BulkValue) → List (List Cell)
cells_of_rows rows = map cells_of_row rows

-- the bytes of requests
abbrev pub bytes_of : List (Vec ℕ) → List (List ℕ)
bytes_of requests = map (λ request. request.items) requests

-- ---- a row is offered, and a request is released first if it doesn't fit

abbrev pub Offered : WriterState → List Cell → List (List ℕ) → WriterState → List (List ℕ) → Type 0
Offered u row requests m more =
    (AddsCells u row (Ok true) m × (more ≡ requests))
    ⊎ ((v : WriterState) × AddsCells u row (Ok false) u × LetsGo u v × AddsCells v row (Ok true) m × (more ≡ requests ++ u.bytes ∷ []))

-- a row is refused for memory only if the buffer has no capacity for it
abbrev pub LacksRoom : WriterState → List Cell → BulkRowError → Type 0
LacksRoom u row e = e ≡ refused.Memory → HasRoomFor u row → ⊥

-- the row was refused: at once; or for memory, because the request that is due was not released; or after that; or it didn't fit although
-- no row waits, which never happens
abbrev pub OfferRefused : WriterState → List Cell → List (List ℕ) → BulkRowError → WriterState → List (List ℕ) → Type 0
OfferRefused u row requests e m more =
    (AddsCells u row (Err e) m × (more ≡ requests) × LacksRoom u row e)
    ⊎ (((e ≡ refused.Memory) × AddsCells u row (Ok false) u × (m ≡ u) × (more ≡ requests))
    ⊎ (((v : WriterState) × AddsCells u row (Ok false) u × LetsGo u v × AddsCells v row (Err e) m × (more ≡ requests ++ u.bytes ∷ []) × LacksRoom v row e)
    ⊎ ((v : WriterState) × AddsCells u row (Ok false) u × LetsGo u v × AddsCells v row (Ok false) v)))

-- ---- the run

-- the writer after these parts were sent: its settings are unchanged
abbrev pub with_settings : WriterState → (types_due : Bool) → WriterState → WriterState
with_settings w due u = record w { types_due = due; count = u.count; size = u.size; bytes = u.bytes; capacity = u.capacity }

abbrev pub left_by : WriterState → List (List (List Cell)) → WriterState → WriterState
left_by w cut u = with_settings w (types_after (packing w) w.types_due cut) u

-- the request of the waiting rows is due: no row is left, or the next one is taken and doesn't fit with them
abbrev pub RequestIsDue : WriterState → (waiting dropped : List (List Cell)) → Type 0
RequestIsDue u waiting [] = waiting ≢ []
RequestIsDue u waiting (row ∷ later) = (waiting ≢ []) × Spells u.types row × (CellsFit u waiting row → ⊥)

-- the next row is refused, for this reason
abbrev pub RefusesNext : WriterState → (waiting dropped : List (List Cell)) → BulkRowError → Type 0
RefusesNext u waiting [] e = ⊥
RefusesNext u waiting (row ∷ later) e = AddsAfter u waiting row (Err e) u

-- the next row fits, and the buffer has no capacity for it
abbrev pub LacksRoomForNext : WriterState → (waiting dropped : List (List Cell)) → Type 0
LacksRoomForNext u waiting [] = ⊥
LacksRoomForNext u waiting (row ∷ later) = AddsAfter u waiting row (Err refused.Memory) u × (HasRoomFor u row → ⊥)

-- why a run ended with this writer, before these rows
abbrev pub EndsBy : Option BulkRowError → WriterState → (waiting dropped : List (List Cell)) → Type 0
-- all rows were sent
EndsBy None u waiting dropped = (waiting ≡ []) × (dropped ≡ [])
-- memory ran out for the request that is due, or for the next row
EndsBy (Some refused.Memory) u waiting dropped = RequestIsDue u waiting dropped ⊎ LacksRoomForNext u waiting dropped
EndsBy (Some e) u waiting dropped = RefusesNext u waiting dropped e

-- the next row, if any
abbrev pub next_of : List (List Cell) → List (List Cell)
next_of [] = []
next_of (row ∷ later) = row ∷ []

-- A run of a writer over rows, after those that waited before, returned these requests, ended with this error, if any, and left the writer
-- in this state.
pub record CellsRunGives (w : WriterState) (before rows : List (List Cell)) (requests : List (List ℕ)) (refusal : Option BulkRowError) (u : WriterState) : Type 0 where
  -- the rows that were sent, one part for each request, none of them empty
  pub cut : List (List (List Cell))
  pub none_empty : NoneEmpty cut
  -- the rows that wait
  pub waiting : List (List Cell)
  pub holds : HoldsCells u waiting
  -- the rows that were not taken: the refused one, and those after it
  pub dropped : List (List Cell)
  -- no row is lost: each was sent, waits, or was dropped, in this order
  pub all_rows : (rows_in cut ++ waiting) ++ dropped ≡ before ++ rows
  -- each request is that of its part
  pub bytes : AreCellRequests w w.types_due cut requests
  -- each part fits, and would not fit with the next row
  pub full_parts : FullFrom (packing w) w.types_due cut (waiting ++ dropped)
  -- the settings are unchanged, and types are due as after these requests
  pub left : u ≡ left_by w cut u
  -- why it ended
  pub ended : EndsBy refusal u waiting dropped
  -- if types were due, no fitting cut of a prefix of the rows is ahead of these requests, however the run ends
  pub full_from_front : w.types_due ≡ true → IsFullFromFront (packing w) (before ++ rows) cut
  -- the rows that were taken have a fitting cut; with a row that is too large they have none
  pub rows_fit : w.types_due ≡ true → HasFittingCut (packing w) (rows_in cut ++ waiting)
  pub too_large : w.types_due ≡ true → refusal ≡ Some refused.TooLarge → HasFittingCut (packing w) ((rows_in cut ++ waiting) ++ next_of dropped) → ⊥
  -- if no row is refused, no fitting cut of the rows has fewer parts
  pub fewest : w.types_due ≡ true → refusal ≡ None → IsFewest (packing w) (before ++ rows) cut

abbrev pub refusal_of : Result (Unit {0}) BulkRowError → Option BulkRowError
refusal_of (Ok done) = None
refusal_of (Err e) = Some e
