-- An attribute in a column's extended metadata.
use Rattle.std.specs.Prelude.{ℕ, List, refl, zero, suc}
use Rattle.mysql_wire.specs.Codecs.{Codec, Fields, ◌>>=◌, give, field, packet, raw_int, u8, string_lenenc}
use Rattle.mysql_replies.specs.declared.column_attribute.ColumnAttribute.{ColumnAttribute}
use Rattle.mysql_replies.specs.declared.column_attribute.ColumnAttributeKind.{ColumnAttributeKind}
use Rattle.mysql_replies.specs.declared.column_attribute.ColumnAttributeKind.TheVariants as kind

-- the number of the kind, and the text's bytes
abbrev pub attribute_code : ColumnAttribute → ℕ
attribute_code a = a.code.0

abbrev pub attribute_text : ColumnAttribute → List ℕ
attribute_text a = a.text

-- 0 is the type's name, 1 the format's name
abbrev pub kind_code : ColumnAttributeKind → ℕ
kind_code kind.TypeName = 0
kind_code kind.FormatName = 1
kind_code (kind.Unknown code) = code

abbrev pub kind_of : ℕ → ColumnAttributeKind
kind_of zero = kind.TypeName
kind_of (suc zero) = kind.FormatName
kind_of (suc (suc n)) = kind.Unknown (suc (suc n))

abbrev pub attribute_kind : ColumnAttribute → ColumnAttributeKind
attribute_kind a = kind_of (attribute_code a)

-- the attribute with these fields
abbrev pub attribute_of : ℕ → List ℕ → ColumnAttribute
attribute_of code text = record { code = raw_int code; text = text }

-- the kind in one byte, and the text, length-encoded
abbrev pub column_attribute_fields : Fields (Unit {0}) ColumnAttribute ColumnAttribute
column_attribute_fields = do
  code ← field (λ a. a.code) u8
  text ← field attribute_text string_lenenc
  give (record { code = code; text = text })

unfoldable pub column_attribute : Codec (Unit {0}) ColumnAttribute
column_attribute = packet column_attribute_fields (λ a. refl)
