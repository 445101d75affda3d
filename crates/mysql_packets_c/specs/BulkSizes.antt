-- The sizes of rows in bulk requests, for C.
use Rattle.std.specs.Prelude.{◌≡◌, ℕ, ◌/◌, ◌%◌, ◌==◌, ◌&&◌, ◌<◌, ◌≤◌, ◌++◌, Bool, nat_le, List, length, map, drop}
use Rattle.mysql_wire.specs.Writing.{saturated}
use Rattle.mysql_packets_c.specs.Bulk.{are_types, row_bytes, rows_of, takes_rows}
use Rattle.mysql_packets_c.specs.declared.rows.CColumnType.{CColumnType}
use Rattle.mysql_packets_c.specs.declared.value.CValue.{CValue}

-- the number of rows in the values
abbrev pub row_count : List CColumnType → List CValue → ℕ
row_count types values = length values / length types

-- the values are complete rows, which can be sent under these types
abbrev pub are_rows : List CColumnType → List CValue → Bool
are_rows types values = (nat_le 1 (length types) && (length values % length types == 0)) && (are_types types && takes_rows types (row_count types values) values)

abbrev pub all_rows : List CColumnType → List CValue → List (List CValue)
all_rows types values = rows_of (length types) (row_count types values) values

-- the size of each row, capped at 2^64 - 1
abbrev pub sizes_of : List CColumnType → List (List CValue) → List ℕ
sizes_of types rows = map (λ row. saturated (length (row_bytes types row))) rows

-- The sizes of the rows are in the first elements: code 0. If the array is too short, it is unchanged: code 5. In both cases the number of
-- rows is returned.
pub record PutsSizes (types : List CColumnType) (rows : List (List CValue)) (code : ℕ) (old new : List ℕ) (count : ℕ) : Type 0 where
  pub fits : length rows ≤ length old → (code ≡ 0) × (new ≡ sizes_of types rows ++ drop (length rows) old)
  pub small : length old < length rows → (code ≡ 5) × (new ≡ old)
  pub is_count : count ≡ length rows
