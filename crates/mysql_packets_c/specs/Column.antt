-- The definition of a column, in C.
use Rattle.std.specs.Prelude.{◌≡◌, ◌<◌, ℕ, List, Option}
use Rattle.mysql_replies.specs.Column as column
use Rattle.mysql_replies.specs.ExtendedColumn as extended
use Rattle.mysql_replies.specs.ExtendedColumn.{attribute_bytes}
use Rattle.mysql_replies.specs.declared.extended_column.ExtendedColumn.{ExtendedColumn}
use Rattle.mysql_wire.specs.ColumnType.{column_type_code}
use Rattle.mysql_wire.specs.declared.codes.column_type.ColumnType.{ColumnType}
use Rattle.mysql_packets_c.specs.Given.{if_set}
use Rattle.mysql_packets_c.specs.Input.{used_of}
use Rattle.mysql_packets_c.specs.declared.column.CColumn.{CColumn}

-- the metadata of a struct, if there are any
abbrev pub metadata_given : CColumn → Option (List ℕ)
metadata_given c = if_set c.has_metadata c.metadata.now

-- the fields of a column, after a given number of bytes; without metadata that pointer is empty
pub record HoldsColumn (c : ExtendedColumn) (taken : ℕ) (out : CColumn) : Type 0 where
  pub schema : out.schema.now ≡ column.schema (extended.column_of c)
  pub table : out.table.now ≡ column.table (extended.column_of c)
  pub org_table : out.org_table.now ≡ column.org_table (extended.column_of c)
  pub name : out.name.now ≡ column.name (extended.column_of c)
  pub org_name : out.org_name.now ≡ column.org_name (extended.column_of c)
  pub column_length : out.column_length ≡ column.column_length (extended.column_of c)
  pub character_set : out.character_set ≡ column.character_set (extended.column_of c)
  pub flags : out.flags ≡ (column.flags (extended.column_of c)).0
  pub column_type : out.column_type ≡ column_type_code (column.column_type (extended.column_of c))
  pub decimals : out.decimals ≡ column.decimals (extended.column_of c)
  pub metadata : metadata_given out ≡ extended.metadata_of c
  pub bytes : out.metadata.now ≡ attribute_bytes (extended.metadata_of c)
  pub flag : out.has_metadata < 2
  pub used : out.used ≡ taken

abbrev pub IsColumn : List ℕ → ExtendedColumn → List ℕ → CColumn → Type 0
IsColumn packet c rest out = HoldsColumn c (used_of packet rest) out

-- the column with this type, and with the other fields
abbrev pub column_given : ColumnType → CColumn → ExtendedColumn
column_given column_type c =
    extended.extended
    (column.column_of c.schema.now c.table.now c.org_table.now c.name.now c.org_name.now c.character_set c.column_length column_type (record { 0 = c.flags; 1 = record {} }) c.decimals)
    (metadata_given c)
