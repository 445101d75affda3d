-- A column definition in the answer to COM_FIELD_LIST, in C.
use Rattle.std.specs.Prelude.{◌≡◌, ◌<◌, ℕ, List, Option}
use Rattle.mysql_replies.specs.ExtendedColumn.{attribute_bytes}
use Rattle.mysql_replies.specs.FieldListColumn.{Definition, column_of, default_of, definition}
use Rattle.mysql_wire.specs.declared.codes.column_type.ColumnType.{ColumnType}
use Rattle.mysql_packets_c.specs.Column.{HoldsColumn, column_given}
use Rattle.mysql_packets_c.specs.Given.{if_set}
use Rattle.mysql_packets_c.specs.Input.{used_of}
use Rattle.mysql_packets_c.specs.declared.field_list_column.CFieldListColumn.{CFieldListColumn}

-- the default value of a struct: NULL if it has none
abbrev pub default_given : CFieldListColumn → Option (List ℕ)
default_given c = if_set c.has_default_value c.default_value.now

-- if the default value is NULL, its pointer is empty
pub record IsDefinition (packet : List ℕ) (d : Definition) (rest : List ℕ) (out : CFieldListColumn) : Type 0 where
  pub column : HoldsColumn (column_of d) (used_of packet rest) out.column
  pub default_value : default_given out ≡ default_of d
  pub bytes : out.default_value.now ≡ attribute_bytes (default_of d)
  pub flag : out.has_default_value < 2

-- the definition of a column with this type, and with the other fields
abbrev pub definition_given : ColumnType → CFieldListColumn → Definition
definition_given column_type c = definition (column_given column_type c.column) (default_given c)
