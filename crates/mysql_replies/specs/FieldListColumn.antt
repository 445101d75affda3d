-- A column definition in the answer to COM_FIELD_LIST.
use Rattle.std.specs.Prelude.{◌≡◌, ℕ, ◌<◌, ◌^◌, List, [], ◌∷◌, length, Option, Some, None, Bool, false, ◌==◌, refl}
use Rattle.std.proofs.Common.{◌⊎◌, inl, inr}
use Rattle.mysql_wire.specs.Codec.{Codec, Fields}
use Rattle.mysql_wire.specs.Codecs.{◌>>=◌, give, field, either, packet, byte_array, string_lenenc}
use Rattle.mysql_wire.specs.Flags.{MariadbCapabilities}
use Rattle.mysql_wire.specs.Form.{Form}
use Rattle.mysql_replies.specs.ExtendedColumn.{ExtendedColumnFits, extended_column}
use Rattle.mysql_replies.specs.GreetingError.{looking_at}
use Rattle.mysql_replies.specs.declared.extended_column.ExtendedColumn.{ExtendedColumn}

-- the definition, and the column's default value: NULL or a text
pub record Definition : Type 0 where
  pub column : ExtendedColumn
  pub default_value : Option (List ℕ)

abbrev pub column_of : Definition → ExtendedColumn
column_of d = d.column

abbrev pub default_of : Definition → Option (List ℕ)
default_of d = d.default_value

abbrev pub definition : ExtendedColumn → Option (List ℕ) → Definition
definition column default_value = record { column = column; default_value = default_value }

-- the next byte stands for NULL
abbrev pub starts_null : List ℕ → Bool
starts_null [] = false
starts_null (first ∷ rest) = first == 0xfb

-- the bytes of a text that may be NULL: fb, or a length-encoded string
abbrev pub nullable : Option (List ℕ) → List ℕ ⊎ List ℕ
nullable None = inl (0xfb ∷ [])
nullable (Some text) = inr text

-- fb for NULL, otherwise a length-encoded string
abbrev pub nullable_fields : Fields (MariadbCapabilities × Bool) (Option (List ℕ)) (Option (List ℕ))
nullable_fields = either (λ c. c.1) nullable (λ null. None) (byte_array 1) Some string_lenenc

pub nullable-same : (text : Option (List ℕ)) → nullable_fields.value text ≡ text
nullable-same None = refl
nullable-same (Some text) = refl

abbrev pub nullable_string : Codec MariadbCapabilities (Option (List ℕ))
nullable_string = looking_at starts_null (packet nullable_fields nullable-same)

-- its reader, under any capabilities
abbrev pub nullable_form : Form (Option (List ℕ))
nullable_form = nullable_string.form (record { 0 = 0; 1 = record {} })

-- the definition, with its metadata under the flag, and the default value
abbrev pub field_list_column_fields : Fields MariadbCapabilities Definition Definition
field_list_column_fields = do
  column ← field column_of extended_column
  default_value ← field default_of nullable_string
  give (definition column default_value)

unfoldable pub field_list_column : Codec MariadbCapabilities Definition
field_list_column = packet field_list_column_fields (λ d. refl)

-- ---- when it is read back, in plain words

-- the text's length is below 2^64
abbrev pub DefaultFits : Option (List ℕ) → Type 0
DefaultFits None = Unit {0}
DefaultFits (Some text) = length text < 2 ^ 64

pub record FieldListColumnFits (capabilities : MariadbCapabilities) (d : Definition) : Type 0 where
  pub column : ExtendedColumnFits capabilities (column_of d)
  pub default_value : DefaultFits (default_of d)
