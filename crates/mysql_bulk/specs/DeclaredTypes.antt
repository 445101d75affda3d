-- The column types that a bulk request declares.
use Rattle.std.specs.Prelude.{ℕ, true, if◌then◌else◌, List, [], ◌∷◌, map, get_or}
use Rattle.std.specs.List.{range_with_len, list_any}
use Rattle.mysql_values.specs.Value.{Content}
use Rattle.mysql_values.specs.Value.{NULL, Int, UInt}
use Rattle.mysql_values.specs.SentType.{is_uint}
use Rattle.mysql_values.specs.declared.param_type.ParamType.{ParamType}
use Rattle.mysql_values.specs.ParamType.{typed, type_of}
use Rattle.mysql_wire.specs.declared.codes.column_type.ColumnType.{ColumnType}
use Rattle.mysql_wire.specs.declared.codes.column_type.ColumnType.TheVariants as column
use Rattle.mysql_bulk.specs.Row.{first_length}

-- the first value that is not NULL, if there is one
abbrev pub first_not_null : List Content → Content
first_not_null [] = NULL
first_not_null (NULL ∷ values) = first_not_null values
first_not_null (value ∷ values) = value

-- the type of a column whose first value other than NULL is this one: unsigned if it is a number and some value is unsigned
abbrev pub type_from : Content → List Content → ParamType
type_from (Int n) values = typed column.MYSQL_TYPE_LONGLONG (list_any is_uint values)
type_from (UInt n) values = typed column.MYSQL_TYPE_LONGLONG (list_any is_uint values)
type_from value values = type_of value

-- the declared type of a column
abbrev pub declared_type : List Content → ParamType
declared_type values = type_from (first_not_null values) values

-- the values at an index of each row
abbrev pub column_values : List (List Content) → ℕ → List Content
column_values rows i = map (λ row. get_or row i NULL) rows

-- the declared types of the columns of rows
abbrev pub declared_types : List (List Content) → List ParamType
declared_types rows = map (λ i. declared_type (column_values rows i)) (range_with_len 0 (first_length rows))

-- ---- the column types so far, while rows are added

abbrev pub type_with_at : ColumnType → ParamType → Content → ParamType
type_with_at column.MYSQL_TYPE_NULL so_far value = type_of value
type_with_at column.MYSQL_TYPE_LONGLONG so_far value = if is_uint value then typed column.MYSQL_TYPE_LONGLONG true else so_far
type_with_at _ so_far value = so_far

-- the type of a column so far, after one more value
abbrev pub type_with : ParamType → Content → ParamType
type_with so_far value = type_with_at so_far.column_type so_far value

-- the column types so far, after one more row: there are none before the first row
abbrev pub types_with_row : List ParamType → List Content → List ParamType
types_with_row types [] = types
types_with_row [] (value ∷ row) = type_of value ∷ types_with_row [] row
types_with_row (so_far ∷ types) (value ∷ row) = type_with so_far value ∷ types_with_row types row
