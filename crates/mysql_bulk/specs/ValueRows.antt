-- A writer of bulk requests over rows of values, DEFAULT and IGNORE, under declared types of any width.
use Rattle.std.specs.Prelude.{◌≡◌, ◌≢◌, ◌⊎◌, ℕ, ◌==◌, Bool, true, false, if◌then◌else◌, IsTrue, List, [], ◌∷◌, ◌++◌, length, None, Result, Ok, Err, All, sum_by}
use Rattle.std.specs.List.{flat_map}
use Rattle.mysql_cuts.specs.declared.rule.BulkRule.{BulkRule}
use Rattle.mysql_cuts.specs.Cut.{Packing, PartFits}
use Rattle.mysql_values.specs.declared.param_type.ParamType.{ParamType}
use Rattle.mysql_bulk.specs.declared.error.BulkRowError.{BulkRowError}
use Rattle.mysql_bulk.specs.declared.error.BulkRowError.TheVariants as refused
use Rattle.mysql_bulk.specs.Builder.{BuilderState}
use Rattle.mysql_bulk.specs.BulkValue.{Cell, cells_bytes, cells_size, spells_cells}
use Rattle.mysql_bulk.specs.RequestWriter.{WriterState, HasRoomOf, head_bytes}

-- ---- rows

-- how requests of such rows are measured: by their sizes under the declared types
abbrev pub cells_packing : BulkRule → (limit : ℕ) → List ParamType → Packing (List Cell)
cells_packing rule limit types = record {
  limit = limit;
  arity = length types;
  weight = cells_size types;
  types_always = rule.types_always;
  max_rows = rule.max_rows;
}

abbrev pub packing : WriterState → Packing (List Cell)
packing w = cells_packing w.rule w.limit w.types

-- the declared types can encode the row
abbrev pub Spells : List ParamType → List Cell → Type 0
Spells types row = IsTrue (spells_cells types row)

abbrev pub rows_bytes : List ParamType → List (List Cell) → List ℕ
rows_bytes types rows = flat_map (cells_bytes types) rows

-- the bytes of a request of these rows, with or without types
abbrev pub request_of_cells : WriterState → (sends_types : Bool) → List (List Cell) → List ℕ
request_of_cells w sends_types rows = head_bytes (record w { types_due = sends_types }) ++ rows_bytes w.types rows

-- the request so far: empty before the first row
abbrev pub so_far : WriterState → List (List Cell) → List ℕ
so_far w [] = []
so_far w (row ∷ rows) = head_bytes w ++ rows_bytes w.types (row ∷ rows)

-- exactly these rows were written
pub record HoldsCells (w : WriterState) (rows : List (List Cell)) : Type 0 where
  pub count : w.count ≡ length rows
  pub size : w.size ≡ sum_by (cells_size w.types) rows
  -- the bytes are those of their request
  pub bytes : w.bytes ≡ so_far w rows
  -- the declared types can encode them, and they fit in a request
  pub taken : All (Spells w.types) rows
  pub fits : rows ≢ [] → PartFits (packing w) w.types_due rows

-- ---- its steps

-- a new writer with these settings
abbrev pub writer_with : (stmt_id limit : ℕ) → (results : Bool) → BulkRule → List ParamType → (capacity : ℕ) → WriterState
writer_with stmt_id limit results rule types capacity = record {
  stmt_id = stmt_id;
  limit = limit;
  results = results;
  rule = rule;
  types = types;
  types_due = true;
  count = 0;
  size = 0;
  bytes = [];
  capacity = capacity;
}

abbrev pub plain_rule : BulkRule
plain_rule = record { types_always = false; max_rows = None }

abbrev pub new_writer : (stmt_id limit : ℕ) → List ParamType → (capacity : ℕ) → WriterState
new_writer stmt_id limit types capacity = writer_with stmt_id limit false plain_rule types capacity

-- with a builder's settings
abbrev pub writer_of : BuilderState → List ParamType → (capacity : ℕ) → WriterState
writer_of s types capacity = writer_with s.stmt_id s.limit s.results s.rule types capacity

-- the row fits with those that were written
abbrev pub CellsFit : WriterState → List (List Cell) → List Cell → Type 0
CellsFit w rows row = PartFits (packing w) w.types_due (rows ++ row ∷ [])

-- one more row was written; the settings are unchanged
abbrev pub Wrote : WriterState → List (List Cell) → List Cell → WriterState → Type 0
Wrote w rows row u = HoldsCells u (rows ++ row ∷ []) × (u ≡ record w { count = u.count; size = u.size; bytes = u.bytes; capacity = u.capacity })

-- a row is offered after these: it is written, or doesn't fit with them, or is refused
abbrev pub AddsAfter : WriterState → List (List Cell) → List Cell → Result Bool BulkRowError → WriterState → Type 0
AddsAfter w rows row (Ok true) u = Spells w.types row × CellsFit w rows row × Wrote w rows row u
AddsAfter w rows row (Ok false) u = Spells w.types row × (CellsFit w rows row → ⊥) × (rows ≢ []) × (u ≡ w)
AddsAfter w rows row (Err refused.MixedArity) u = (length row ≢ length w.types) × (u ≡ w)
AddsAfter w rows row (Err refused.MixedTypes) u = (length row ≡ length w.types) × (Spells w.types row → ⊥) × (u ≡ w)
AddsAfter w rows row (Err refused.TooLarge) u = Spells w.types row × (CellsFit w rows row → ⊥) × (rows ≡ []) × (u ≡ w)
AddsAfter w rows row (Err refused.Memory) u = Spells w.types row × CellsFit w rows row × (u ≡ w)

abbrev pub AddsCells : WriterState → List Cell → Result Bool BulkRowError → WriterState → Type 0
AddsCells w row result u = (rows : List (List Cell)) → HoldsCells w rows → AddsAfter w rows row result u

-- the request is released: if a row was written, no row waits, and the rule says whether the next request sends types
abbrev pub LetsGo : WriterState → WriterState → Type 0
LetsGo w u = u ≡ (if w.count == 0 then record w { capacity = u.capacity } else record w { types_due = w.rule.types_always; count = 0; size = 0; bytes = []; capacity = u.capacity })

-- the request of these rows was requested: there are some, these are its bytes, and it is allowed
abbrev pub IsRequestOf : WriterState → List (List Cell) → List ℕ → Type 0
IsRequestOf w rows bytes = (rows ≢ []) × (bytes ≡ request_of_cells w w.types_due rows) × PartFits (packing w) w.types_due rows

-- the buffer has capacity for a row, and the rows can be counted
abbrev pub HasRoomFor : WriterState → List Cell → Type 0
HasRoomFor w row = HasRoomOf w (cells_size w.types row)

-- ---- a caller's own loop

-- rows were offered in order, and each was written: if it did not fit with the waiting rows, their request was released first. These are
-- the bytes of the requests that were released.
abbrev pub StreamsCells : WriterState → List (List Cell) → List (List ℕ) → WriterState → Type 0
StreamsCells w [] requests u = (requests ≡ []) × (u ≡ w)
StreamsCells w (row ∷ rows) requests u =
    ((m : WriterState) × AddsCells w row (Ok true) m × StreamsCells m rows requests u)
    ⊎ ((v : WriterState) × (m : WriterState) × (later : List (List ℕ)) × AddsCells w row (Ok false) w × LetsGo w v × AddsCells v row (Ok true) m
    × (requests ≡ w.bytes ∷ later) × StreamsCells m rows later u)

-- these are the bytes of the parts' requests; the first one sends types or not
abbrev pub AreCellRequests : WriterState → (sends_types : Bool) → List (List (List Cell)) → List (List ℕ) → Type 0
AreCellRequests w types [] [] = Unit {0}
AreCellRequests w types (part ∷ parts) (bytes ∷ requests) = (bytes ≡ request_of_cells w types part) × AreCellRequests w w.rule.types_always parts requests
AreCellRequests w types [] (bytes ∷ requests) = ⊥
AreCellRequests w types (part ∷ parts) [] = ⊥
