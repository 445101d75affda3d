-- The values of a row in a bulk request.
use Rattle.std.specs.Prelude.{ℕ, Bool, false, List, [], ◌∷◌, is_ok}
use Rattle.mysql_wire.specs.FlagMasks.{UNSIGNED_FLAG}
use Rattle.mysql_wire.specs.declared.codes.column_type.ColumnType.{ColumnType}
use Rattle.mysql_wire.specs.Flags.{ColumnFlags, has}
use Rattle.mysql_wire.specs.Form.{Form}
use Rattle.mysql_wire.specs.Each.{each}
use Rattle.mysql_bulk.specs.ParamValue.{ParamValue, param_value}

-- the type and the flags of a column
abbrev pub BulkColumn : Type 0
BulkColumn = ColumnType × ColumnFlags

-- a value of a column
abbrev pub value_of_column : ℕ → BulkColumn → Form ParamValue
value_of_column place column = param_value column.0 (has column.1.0 UNSIGNED_FLAG)

-- a value of each column
abbrev pub values_of_columns : List BulkColumn → Form (List ParamValue)
values_of_columns columns = each value_of_column 0 columns

-- there is a column, and the first one's value can be read: it is kept in a list
abbrev pub reads_first : List BulkColumn → List ℕ → Bool
reads_first [] bytes = false
reads_first (column ∷ columns) bytes = is_ok ((value_of_column 0 column).reads bytes)
