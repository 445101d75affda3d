-- What a column's values are, by its type.
use Rattle.std.specs.Prelude.{Bool, true, false, ◌&&◌, ◌==◌}
use Rattle.mysql_wire.specs.declared.codes.column_type.ColumnType.{ColumnType}
use Rattle.mysql_wire.specs.declared.codes.column_type.ColumnType.TheVariants as column
use Rattle.mysql_values.specs.declared.value_kind.ValueKind.{ValueKind}
use Rattle.mysql_values.specs.declared.value_kind.ValueKind.TheVariants as kind
use Rattle.mysql_values.specs.Temporal.{is_midnight}
use Rattle.mysql_values.specs.Value.{Content, NULL, Bytes, Float, Double, Date, Time}

abbrev pub kind_of : ColumnType → ValueKind
kind_of column.MYSQL_TYPE_DECIMAL = kind.String
kind_of column.MYSQL_TYPE_TINY = kind.Tiny
kind_of column.MYSQL_TYPE_SHORT = kind.Short
kind_of column.MYSQL_TYPE_LONG = kind.Long
kind_of column.MYSQL_TYPE_FLOAT = kind.Float
kind_of column.MYSQL_TYPE_DOUBLE = kind.Double
kind_of column.MYSQL_TYPE_NULL = kind.Null
kind_of column.MYSQL_TYPE_TIMESTAMP = kind.DateTime
kind_of column.MYSQL_TYPE_LONGLONG = kind.LongLong
kind_of column.MYSQL_TYPE_INT24 = kind.Long
kind_of column.MYSQL_TYPE_DATE = kind.Date
kind_of column.MYSQL_TYPE_TIME = kind.Time
kind_of column.MYSQL_TYPE_DATETIME = kind.DateTime
kind_of column.MYSQL_TYPE_YEAR = kind.Short
kind_of column.MYSQL_TYPE_CODE_14 = kind.Unsupported
kind_of column.MYSQL_TYPE_VARCHAR = kind.String
kind_of column.MYSQL_TYPE_BIT = kind.String
kind_of column.MYSQL_TYPE_CODE_17 = kind.Unsupported
kind_of column.MYSQL_TYPE_CODE_18 = kind.Unsupported
kind_of column.MYSQL_TYPE_CODE_19 = kind.Unsupported
kind_of column.MYSQL_TYPE_CODE_20 = kind.Unsupported
kind_of column.MYSQL_TYPE_VECTOR = kind.String
kind_of column.MYSQL_TYPE_CODE_243 = kind.Unsupported
kind_of column.MYSQL_TYPE_JSON = kind.String
kind_of column.MYSQL_TYPE_NEWDECIMAL = kind.String
kind_of column.MYSQL_TYPE_ENUM = kind.String
kind_of column.MYSQL_TYPE_SET = kind.String
kind_of column.MYSQL_TYPE_TINY_BLOB = kind.String
kind_of column.MYSQL_TYPE_MEDIUM_BLOB = kind.String
kind_of column.MYSQL_TYPE_LONG_BLOB = kind.String
kind_of column.MYSQL_TYPE_BLOB = kind.String
kind_of column.MYSQL_TYPE_VAR_STRING = kind.String
kind_of column.MYSQL_TYPE_STRING = kind.String
kind_of column.MYSQL_TYPE_GEOMETRY = kind.String

abbrev pub is_string_kind : ValueKind → Bool
is_string_kind kind.String = true
is_string_kind _ = false

abbrev pub is_longlong : ValueKind → Bool
is_longlong kind.LongLong = true
is_longlong _ = false

abbrev pub is_date : ValueKind → Bool
is_date kind.Date = true
is_date kind.DateTime = true
is_date _ = false

-- values of the type are strings of bytes
abbrev pub is_string : ColumnType → Bool
is_string type = is_string_kind (kind_of type)

-- NULL, or a value of the kind, except for integers; a DATE has no time of day
abbrev pub matches_type : ValueKind → Content → Bool
matches_type _ NULL = true
matches_type kind.String (Bytes bytes) = true
matches_type kind.Float (Float bits) = true
matches_type kind.Double (Double bits) = true
matches_type kind.Date (Date date) = date.micros == 0 && is_midnight date.clock
matches_type kind.DateTime (Date date) = true
matches_type kind.Time (Time time) = true
matches_type _ value = false
