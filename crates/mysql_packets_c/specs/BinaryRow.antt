-- A binary row, value by value.
use Rattle.std.specs.List.{list_any}
use Rattle.std.specs.Prelude.{ℕ, List, Bool, ◌&&◌}
use Rattle.mysql_stmt.specs.BinaryRow.{bin_in, takes}
use Rattle.mysql_stmt.specs.NullMarks.{is_null}
use Rattle.mysql_packets_c.specs.ColumnType.{type_of, unsigned_of}
use Rattle.mysql_packets_c.specs.Value.{value_content, is_value}
use Rattle.mysql_packets_c.specs.declared.rows.CColumnType.{CColumnType}
use Rattle.mysql_packets_c.specs.declared.value.CValue.{CValue}

-- it is a value that the column can contain
abbrev pub takes_value : CColumnType → CValue → Bool
takes_value column value = is_value value && takes (type_of column) (unsigned_of column) (value_content value)

-- its bytes, in the column's width
abbrev pub cell_in : CColumnType → CValue → List ℕ
cell_in column value = bin_in (type_of column) (value_content value)

-- one of the values is NULL
abbrev pub is_null_value : CValue → Bool
is_null_value value = is_null (value_content value)

abbrev pub has_null : List CValue → Bool
has_null values = list_any is_null_value values
