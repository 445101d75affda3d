-- The type of a column, in C.
use Rattle.std.specs.Prelude.{Bool, true, false, ◌==◌, if◌then◌else◌}
use Rattle.std.specs.Option.{unwrap_or}
use Rattle.mysql_wire.specs.ColumnType.{column_type_of}
use Rattle.mysql_wire.specs.declared.codes.column_type.ColumnType.{ColumnType}
use Rattle.mysql_wire.specs.declared.codes.column_type.ColumnType.TheVariants as column_type
use Rattle.mysql_packets_c.specs.declared.rows.CColumnType.{CColumnType}

-- the type with this code, or a type that no value has
abbrev pub type_of : CColumnType → ColumnType
type_of c = unwrap_or (column_type_of c.column_type) column_type.MYSQL_TYPE_CODE_14

abbrev pub unsigned_of : CColumnType → Bool
unsigned_of c = if c.is_unsigned == 0 then false else true
