-- Values of a row as a client sends them: a value, DEFAULT or IGNORE, under the column's declared type.
use Rattle.std.specs.Prelude.{ℕ, ◌++◌, Bool, true, false, ◌&&◌, is_some, List, [], ◌∷◌, length, Option, Some, unwrap_or}
use Rattle.std.specs.Option.{option_map}
use Rattle.mysql_wire.specs.declared.codes.mariadb_bulk_indicator.MariadbBulkIndicator.{MariadbBulkIndicator}
use Rattle.mysql_wire.specs.declared.codes.mariadb_bulk_indicator.MariadbBulkIndicator.TheVariants.{BULK_INDICATOR_NONE, BULK_INDICATOR_NULL, BULK_INDICATOR_DEFAULT, BULK_INDICATOR_IGNORE}
use Rattle.mysql_wire.specs.MariadbBulkIndicator.{mariadb_bulk_indicator_code}
use Rattle.mysql_wire.specs.Writing.{le_bytes}
use Rattle.mysql_values.specs.declared.param_type.ParamType.{ParamType}
use Rattle.mysql_values.specs.TypedValue.{spelled}
use Rattle.mysql_values.specs.Value.{Content, NULL}
use Rattle.mysql_values.specs.ValueRef.{ref_content}
use Rattle.mysql_bulk.specs.declared.bulk_value.BulkValue.{BulkValue}
use Rattle.mysql_bulk.specs.declared.bulk_value.BulkValue.TheVariants as bulk

-- the content of a column in a row
pub data Cell : Type 0 where
  Given : Content → Cell
  Default : Cell
  Ignore : Cell

abbrev pub cell_of : BulkValue → Cell
cell_of (bulk.Value value) = Given (ref_content value)
cell_of bulk.Default = Default
cell_of bulk.Ignore = Ignore

-- ---- bytes

abbrev pub indicator_bytes : MariadbBulkIndicator → List ℕ
indicator_bytes indicator = le_bytes 1 (mariadb_bulk_indicator_code indicator)

-- the indicator, and the value under the declared type if one follows; none if the type can't encode it
abbrev pub cell_spelled : ParamType → Cell → Option (List ℕ)
cell_spelled t (Given NULL) = Some (indicator_bytes BULK_INDICATOR_NULL)
cell_spelled t (Given value) = option_map (λ bytes. indicator_bytes BULK_INDICATOR_NONE ++ bytes) (spelled t value)
cell_spelled t Default = Some (indicator_bytes BULK_INDICATOR_DEFAULT)
cell_spelled t Ignore = Some (indicator_bytes BULK_INDICATOR_IGNORE)

abbrev pub spells_cell : ParamType → Cell → Bool
spells_cell t cell = is_some (cell_spelled t cell)

abbrev pub cell_bytes : ParamType → Cell → List ℕ
cell_bytes t cell = unwrap_or (cell_spelled t cell) []

-- the row has one cell for each type, which can encode it
abbrev pub spells_cells : List ParamType → List Cell → Bool
spells_cells [] [] = true
spells_cells [] (cell ∷ row) = false
spells_cells (t ∷ types) [] = false
spells_cells (t ∷ types) (cell ∷ row) = spells_cell t cell && spells_cells types row

-- the bytes of a row
abbrev pub cells_bytes : List ParamType → List Cell → List ℕ
cells_bytes [] row = []
cells_bytes (t ∷ types) [] = []
cells_bytes (t ∷ types) (cell ∷ row) = cell_bytes t cell ++ cells_bytes types row

-- the size, by the declared widths
abbrev pub cells_size : List ParamType → List Cell → ℕ
cells_size types row = length (cells_bytes types row)
