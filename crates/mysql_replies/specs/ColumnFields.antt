-- The fixed-length fields of a column.
use Rattle.std.specs.Prelude.{ℕ, refl}
use Rattle.mysql_wire.specs.declared.codes.column_type.ColumnType.{ColumnType}
use Rattle.mysql_wire.specs.Codecs.{Codec, Fields, ◌>>=◌, give, field, block, packet, const_u8, u8, u16, u32, coded, flags, skip, raw_int}
use Rattle.mysql_wire.specs.ColumnType.{column_type_code, column_type_of, column_type-again}
use Rattle.mysql_wire.specs.Flags.{ColumnFlags}
use Rattle.mysql_replies.specs.declared.column_fields.ColumnFields.{ColumnFields}

-- the fields with these values
abbrev pub fields_of : ℕ → ℕ → ColumnType → ColumnFlags → ℕ → ColumnFields
fields_of character_set column_length column_type flags decimals = record {
  fixed_length_fields_len = record { 0 = record {} };
  character_set = raw_int character_set;
  column_length = raw_int column_length;
  column_type = record { 0 = column_type; 1 = record {} };
  flags = record { 0 = flags; 1 = record {} };
  decimals = raw_int decimals;
  filler = record {};
}

-- 0c, the character set, the length, the type, the flags, the decimals, and two bytes with any values
abbrev pub column_field_list : Fields (Unit {0}) ColumnFields ColumnFields
column_field_list = do
  fixed_length_fields_len ← field (λ f. f.fixed_length_fields_len) (const_u8 0x0c)
  character_set ← field (λ f. f.character_set) u16
  column_length ← field (λ f. f.column_length) u32
  column_type ← field (λ f. f.column_type) (coded column_type_code column_type_of column_type-again)
  flags ← field (λ f. f.flags) (flags 2)
  decimals ← field (λ f. f.decimals) u8
  filler ← field (λ f. f.filler) (skip 2)
  give (fields_of character_set.0 column_length.0 column_type.0 flags.0 decimals.0)

-- thirteen bytes
unfoldable pub column_fields : Codec (Unit {0}) ColumnFields
column_fields = packet (block 13 column_field_list (λ f. refl)) (λ f. refl)
