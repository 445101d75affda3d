-- A bulk request that is written row by row.
use Rattle.std.specs.Prelude.{◌≡◌, ◌≢◌, ℕ, ◌+◌, ◌*◌, ◌++◌, ◌∷◌, ◌==◌, ◌&&◌, ◌||◌, ◌<◌, ◌≤◌, Bool, true, nat_le, List, [], length, take, drop, All}
use Rattle.mysql_cuts.specs.Cut.{PartFits}
use Rattle.mysql_bulk.specs.BulkValue.{Cell}
use Rattle.mysql_bulk.specs.RequestWriter.{WriterState}
use Rattle.mysql_bulk.specs.ValueRows.{CellsFit, IsRequestOf, Spells, packing, request_of_cells}
use Rattle.mysql_packets_c.specs.Bulk.{are_types, row_bytes}
use Rattle.mysql_packets_c.specs.declared.rows.CColumnType.{CColumnType}
use Rattle.mysql_packets_c.specs.declared.value.CValue.{CValue}

-- a request with these flags, with at least one column, whose types are valid
abbrev pub may_begin : ℕ → List CColumnType → Bool
may_begin flags types = (flags == 0 || flags == 64) && (nat_le 1 (length types) && are_types types)

-- a buffer begins with a head
abbrev pub may_add : ℕ → ℕ → ℕ → List CColumnType → Bool
may_add max_allowed_packet used size types = nat_le 4 max_allowed_packet && (nat_le 1 (length types) && (nat_le (7 + 2 * length types) used && nat_le used size))

-- ---- answers

-- the bytes so far, and the next row
abbrev pub size_with : ℕ → List CColumnType → List CValue → ℕ
size_with used types row = used + length (row_bytes types row)

abbrev pub buffer_with : ℕ → List CColumnType → List CValue → List ℕ → List ℕ
buffer_with used types row buffer = take used buffer ++ (row_bytes types row ++ drop (size_with used types row) buffer)

-- The row follows the bytes so far: code 0. If the request would be too long, buffer and count are unchanged: code 6. If the buffer is too
-- small, it is unchanged: code 5, and the count is the size that it needs.
pub record AddsRow (limit used : ℕ) (types : List CColumnType) (row : List CValue) (code : ℕ) (old new : List ℕ) (before written : ℕ) : Type 0 where
  pub large : limit < size_with used types row → (code ≡ 6) × (new ≡ old) × (written ≡ before)
  pub small : size_with used types row ≤ limit → length old < size_with used types row → (code ≡ 5) × (new ≡ old) × (written ≡ size_with used types row)
  pub fits : size_with used types row ≤ limit → size_with used types row ≤ length old → (code ≡ 0) × (new ≡ buffer_with used types row old) × (written ≡ size_with used types row)

-- ---- the corresponding writer

-- the bytes are those of a request of these rows, or its head without rows; the types can encode the rows, which fit in a request
pub record HoldsRows (w : WriterState) (rows : List (List Cell)) (bytes : List ℕ) : Type 0 where
  pub bytes_are : bytes ≡ request_of_cells w true rows
  pub taken : All (Spells w.types) rows
  pub fit : rows ≢ [] → PartFits (packing w) true rows

-- the row was added to those before it, and the bytes are those of their request; or it does not fit with them
pub record AddsAsWriter (w : WriterState) (rows : List (List Cell)) (row : List Cell) (code : ℕ) (bytes : List ℕ) : Type 0 where
  pub fits : code ≡ 0 → CellsFit w rows row
  pub holds : code ≡ 0 → HoldsRows w (rows ++ row ∷ []) bytes
  pub built : code ≡ 0 → IsRequestOf w (rows ++ row ∷ []) bytes
  pub full : code ≡ 6 → CellsFit w rows row → ⊥
