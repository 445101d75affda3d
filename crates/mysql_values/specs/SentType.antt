-- The type that a value is sent as.
use Rattle.std.specs.Prelude.{Bool, true, false}
use Rattle.mysql_wire.specs.declared.codes.column_type.ColumnType.{ColumnType}
use Rattle.mysql_wire.specs.declared.codes.column_type.ColumnType.TheVariants as column
use Rattle.mysql_values.specs.Value.{Content, NULL, Bytes, Int, UInt, Float, Double, Date, Time}

abbrev pub sent_type : Content → ColumnType
sent_type NULL = column.MYSQL_TYPE_NULL
sent_type (Bytes bytes) = column.MYSQL_TYPE_VAR_STRING
sent_type (Int n) = column.MYSQL_TYPE_LONGLONG
sent_type (UInt n) = column.MYSQL_TYPE_LONGLONG
sent_type (Float bits) = column.MYSQL_TYPE_FLOAT
sent_type (Double bits) = column.MYSQL_TYPE_DOUBLE
sent_type (Date date) = column.MYSQL_TYPE_DATETIME
sent_type (Time time) = column.MYSQL_TYPE_TIME

-- the type has the flag for unsigned numbers
abbrev pub is_uint : Content → Bool
is_uint (UInt n) = true
is_uint _ = false
