-- A column of a result.
use Rattle.std.specs.Prelude.{◌≡◌, ℕ, ◌<◌, ◌^◌, Bool, false, List, [], ◌∷◌, length, codes, refl}
use Rattle.mysql_wire.specs.declared.codes.column_type.ColumnType.{ColumnType}
use Rattle.mysql_wire.specs.Codec.{Codec, Fields}
use Rattle.mysql_wire.specs.Codecs.{◌>>=◌, give, field, packet, const_bytes}
use Rattle.mysql_wire.specs.Flags.{ColumnFlags}
use Rattle.mysql_wire.specs.Form as form
use Rattle.mysql_replies.specs.declared.column.Catalog.{Catalog}
use Rattle.mysql_replies.specs.declared.column.Column.{Column}
use Rattle.mysql_replies.specs.declared.column_fields.ColumnFields.{ColumnFields}
use Rattle.mysql_replies.specs.declared.column_names.ColumnMeta.{ColumnMeta}
use Rattle.mysql_replies.specs.ColumnFields.{column_fields, fields_of}
use Rattle.mysql_replies.specs.ColumnNames.{column_meta, has_a_name, meta_of, reads_a_name}

-- `def`, length-encoded
abbrev pub catalog_bytes : List ℕ
catalog_bytes = 3 ∷ codes "def"

-- the bytes of the names
abbrev pub schema : Column → List ℕ
schema c = c.meta.schema

abbrev pub table : Column → List ℕ
table c = c.meta.table

abbrev pub org_table : Column → List ℕ
org_table c = c.meta.org_table

abbrev pub name : Column → List ℕ
name c = c.meta.name

abbrev pub org_name : Column → List ℕ
org_name c = c.meta.org_name

abbrev pub names_of : Column → ColumnMeta
names_of c = c.meta

-- all names are empty
abbrev pub HasNoName : Column → Type 0
HasNoName c = has_a_name (names_of c) ≡ false

-- type, flags and numbers
abbrev pub column_type : Column → ColumnType
column_type c = c.fields.column_type.0

abbrev pub flags : Column → ColumnFlags
flags c = c.fields.flags.0

abbrev pub character_set : Column → ℕ
character_set c = c.fields.character_set.0

abbrev pub column_length : Column → ℕ
column_length c = c.fields.column_length.0

abbrev pub decimals : Column → ℕ
decimals c = c.fields.decimals.0

-- the column with these names and fields
abbrev pub column_of : (schema table org_table name org_name : List ℕ) (character_set column_length : ℕ) (column_type : ColumnType) (flags : ColumnFlags) (decimals : ℕ) → Column
column_of schema table org_table name org_name character_set column_length column_type flags decimals = record {
  catalog = record { 0 = record {} };
  meta = meta_of schema table org_table name org_name;
  fields = fields_of character_set column_length column_type flags decimals;
}

abbrev pub column_with : ColumnMeta → ColumnFields → Column
column_with meta fields = record { catalog = record { 0 = record {} }; meta = meta; fields = fields }

-- a column of this type; everything else is empty or 0
abbrev pub new_column : ColumnType → Column
new_column column_type = column_of [] [] [] [] [] 0 0 column_type (record { 0 = 0; 1 = record {} }) 0

-- the column with one name or field replaced
abbrev pub with_schema : Column → List ℕ → Column
with_schema c x = column_of x (table c) (org_table c) (name c) (org_name c) (character_set c) (column_length c) (column_type c) (flags c) (decimals c)

abbrev pub with_table : Column → List ℕ → Column
with_table c x = column_of (schema c) x (org_table c) (name c) (org_name c) (character_set c) (column_length c) (column_type c) (flags c) (decimals c)

abbrev pub with_org_table : Column → List ℕ → Column
with_org_table c x = column_of (schema c) (table c) x (name c) (org_name c) (character_set c) (column_length c) (column_type c) (flags c) (decimals c)

abbrev pub with_name : Column → List ℕ → Column
with_name c x = column_of (schema c) (table c) (org_table c) x (org_name c) (character_set c) (column_length c) (column_type c) (flags c) (decimals c)

abbrev pub with_org_name : Column → List ℕ → Column
with_org_name c x = column_of (schema c) (table c) (org_table c) (name c) x (character_set c) (column_length c) (column_type c) (flags c) (decimals c)

abbrev pub with_character_set : Column → ℕ → Column
with_character_set c x = column_of (schema c) (table c) (org_table c) (name c) (org_name c) x (column_length c) (column_type c) (flags c) (decimals c)

abbrev pub with_column_length : Column → ℕ → Column
with_column_length c x = column_of (schema c) (table c) (org_table c) (name c) (org_name c) (character_set c) x (column_type c) (flags c) (decimals c)

abbrev pub with_flags : Column → ColumnFlags → Column
with_flags c x = column_of (schema c) (table c) (org_table c) (name c) (org_name c) (character_set c) (column_length c) (column_type c) x (decimals c)

abbrev pub with_decimals : Column → ℕ → Column
with_decimals c x = column_of (schema c) (table c) (org_table c) (name c) (org_name c) (character_set c) (column_length c) (column_type c) (flags c) x

-- the catalog, five names, thirteen bytes of fields
abbrev pub column_parts : Fields (Unit {0}) Column Column
column_parts = do
  catalog ← field (λ c. c.catalog) (const_bytes 4 catalog_bytes)
  meta ← field (λ c. c.meta) column_meta
  fields ← field (λ c. c.fields) column_fields
  give (record { catalog = catalog; meta = meta; fields = fields })

unfoldable pub column : Codec (Unit {0}) Column
column = packet column_parts (λ c. refl)

-- catalog and names
abbrev pub column_front : form.Form ColumnMeta
column_front = form.◌>>=◌ ((const_bytes {T = Catalog} 4 catalog_bytes).form (tt {0})) (λ catalog. column_meta.form (tt {0}))

-- whether the bytes begin with the catalog and five names, not all empty
abbrev pub begins_with_names : List ℕ → Bool
begins_with_names bytes = reads_a_name (column_front.reads bytes)

-- when a column is read back: string lengths below 2^64, and numbers within their widths
pub record ColumnFits (c : Column) : Type 0 where
  pub schema : length (schema c) < 2 ^ 64
  pub table : length (table c) < 2 ^ 64
  pub org_table : length (org_table c) < 2 ^ 64
  pub name : length (name c) < 2 ^ 64
  pub org_name : length (org_name c) < 2 ^ 64
  pub character_set : character_set c < 2 ^ 16
  pub column_length : column_length c < 2 ^ 32
  pub flags : (flags c).0 < 2 ^ 16
  pub decimals : decimals c < 2 ^ 8
