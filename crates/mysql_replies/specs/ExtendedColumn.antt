-- A column with extended metadata.
use Rattle.std.specs.Prelude.{◌≡◌, ℕ, ◌<◌, ◌^◌, List, [], length, Option, Some, None, Ok, Err, Bool, true, false, ◌||◌, refl}
use Rattle.mysql_wire.specs.Codecs.{Codec, Fields, ◌>>=◌, give, field, packet, when, without_context, const_bytes, string_lenenc}
use Rattle.mysql_wire.specs.FlagMasks.{MARIADB_CLIENT_EXTENDED_METADATA}
use Rattle.mysql_wire.specs.Flags.{MariadbCapabilities, has}
use Rattle.mysql_wire.specs.Reading.{Reading}
use Rattle.mysql_wire.specs.Seq.{is_any}
use Rattle.mysql_replies.specs.Column.{ColumnFits, catalog_bytes, names_of}
use Rattle.mysql_replies.specs.ColumnFields.{column_fields}
use Rattle.mysql_replies.specs.ColumnNames.{column_meta, has_a_name}
use Rattle.mysql_replies.specs.declared.column.Column.{Column}
use Rattle.mysql_replies.specs.declared.extended_column.ExtendedColumn.{ExtendedColumn}

-- the column, and the bytes of its extended metadata
abbrev pub column_of : ExtendedColumn → Column
column_of c = c.column

abbrev pub metadata_of : ExtendedColumn → Option (List ℕ)
metadata_of c = c.metadata

-- the column with this metadata
abbrev pub extended : Column → Option (List ℕ) → ExtendedColumn
extended column metadata = record { column = column; metadata = metadata }

-- the bytes of its attributes: none without metadata
abbrev pub attribute_bytes : Option (List ℕ) → List ℕ
attribute_bytes None = []
attribute_bytes (Some bytes) = bytes

-- MARIADB_CLIENT_EXTENDED_METADATA is agreed on
abbrev pub sends_metadata : MariadbCapabilities → Bool
sends_metadata capabilities = has capabilities.0 MARIADB_CLIENT_EXTENDED_METADATA

-- catalog, five names, the metadata under the flag, and thirteen bytes of fields
abbrev pub extended_column_parts : Fields MariadbCapabilities ExtendedColumn ExtendedColumn
extended_column_parts = do
  catalog ← field (λ c. c.column.catalog) (const_bytes 4 catalog_bytes)
  meta ← field (λ c. c.column.meta) (without_context column_meta)
  metadata ← field metadata_of (when sends_metadata string_lenenc)
  fields ← field (λ c. c.column.fields) (without_context column_fields)
  give (extended (record { catalog = catalog; meta = meta; fields = fields }) metadata)

unfoldable pub extended_column : Codec MariadbCapabilities ExtendedColumn
extended_column = packet extended_column_parts (λ c. refl)

-- a column that is read, without its metadata
abbrev pub without_metadata : Reading Column → Reading ExtendedColumn
without_metadata (Ok x) = Ok (extended x.0 None, x.1)
without_metadata (Err kind) = Err kind

-- ---- memory

-- whether a name or the metadata is not empty
abbrev pub has_text : ExtendedColumn → Bool
has_text c = has_a_name (names_of (column_of c)) || is_any (length (attribute_bytes (metadata_of c)))

-- whether the column that is read has any: its texts are copied
abbrev pub reads_text : Reading ExtendedColumn → Bool
reads_text (Ok x) = has_text x.0
reads_text (Err kind) = false

-- ---- when a column is read back, in plain words

-- the metadata is present exactly under the flag, and its length is below 2^64
abbrev pub MetadataFits : Bool → Option (List ℕ) → Type 0
MetadataFits sends None = sends ≡ false
MetadataFits sends (Some bytes) = (sends ≡ true) × (length bytes < 2 ^ 64)

pub record ExtendedColumnFits (capabilities : MariadbCapabilities) (c : ExtendedColumn) : Type 0 where
  pub column : ColumnFits (column_of c)
  pub metadata : MetadataFits (sends_metadata capabilities) (metadata_of c)
