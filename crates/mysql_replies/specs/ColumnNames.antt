-- The names of a column, concatenated in one buffer.
use Rattle.std.specs.Prelude.{ℕ, ◌+◌, ◌≤◌, Bool, false, List, length, take, slice_range, Ok, Err, refl}
use Rattle.mysql_wire.specs.Codec.{Codec, Fields}
use Rattle.mysql_wire.specs.Codecs.{◌>>=◌, give, field, packet, string_lenenc}
use Rattle.mysql_wire.specs.Reading.{Reading}
use Rattle.mysql_wire.specs.Seq.{is_any}
use Rattle.mysql_replies.specs.declared.column_names.ColumnMeta.{ColumnMeta}
use Rattle.mysql_replies.specs.declared.column_names.ColumnNames.TheInside.{Inside}

abbrev pub meta_of : List ℕ → List ℕ → List ℕ → List ℕ → List ℕ → ColumnMeta
meta_of schema table org_table name org_name = record { schema = schema; table = table; org_table = org_table; name = name; org_name = org_name }

-- five strings, length-encoded
abbrev pub column_meta_fields : Fields (Unit {0}) ColumnMeta ColumnMeta
column_meta_fields = do
  schema ← field (λ m. m.schema) string_lenenc
  table ← field (λ m. m.table) string_lenenc
  org_table ← field (λ m. m.org_table) string_lenenc
  name ← field (λ m. m.name) string_lenenc
  org_name ← field (λ m. m.org_name) string_lenenc
  give (meta_of schema table org_table name org_name)

unfoldable pub column_meta : Codec (Unit {0}) ColumnMeta
column_meta = packet column_meta_fields (λ m. refl)

-- the total length of the names
abbrev pub names_len : ColumnMeta → ℕ
names_len m = length m.schema + length m.table + length m.org_table + length m.name + length m.org_name

-- whether any name is not empty
abbrev pub has_a_name : ColumnMeta → Bool
has_a_name m = is_any (names_len m)

-- whether names are read, and not all empty: the bytes are copied
abbrev pub reads_a_name : Reading ColumnMeta → Bool
reads_a_name (Ok x) = has_a_name x.0
reads_a_name (Err e) = false

-- the names that end at these offsets
abbrev pub names_at : List ℕ → (schema_end table_end org_table_end name_end : ℕ) → ColumnMeta
names_at bytes s t o n = meta_of (take s bytes) (slice_range bytes s t) (slice_range bytes t o) (slice_range bytes o n) (slice_range bytes n (length bytes))

abbrev pub names_in : Inside → ColumnMeta
names_in i = names_at i.bytes i.schema_end i.table_end i.org_table_end i.name_end

-- each end is at or after the previous one, and within the bytes
pub record AreInOrder (i : Inside) : Type 0 where
  pub table : i.schema_end ≤ i.table_end
  pub org_table : i.table_end ≤ i.org_table_end
  pub name : i.org_table_end ≤ i.name_end
  pub org_name : i.name_end ≤ length i.bytes
