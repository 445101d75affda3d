-- How values are read from rows and requests.
use Rattle.std.specs.Prelude.{◌≡◌, ℕ, ℤ, pos, Bool, true, false, List, [], ◌∷◌, ◌==◌, None, Ok, Err, refl}
use Rattle.std.specs.Int.{Width, w8, w16, w32, w64, cast_signed}
use Rattle.mysql_wire.specs.declared.codes.column_type.ColumnType.{ColumnType}
use Rattle.mysql_wire.specs.FlagMasks.{UNSIGNED_FLAG}
use Rattle.mysql_wire.specs.Flags.{ColumnFlags, has}
use Rattle.mysql_wire.specs.Reading.{Reading}
use Rattle.mysql_wire.specs.Form.{Form, map, bytes, number, give, refuse, either, looking}
use Rattle.mysql_wire.specs.LenEnc.{lenenc_string}
use Rattle.mysql_values.specs.Value.{Content, NULL, Bytes, Int, UInt, Float, Double, Date, Time}
use Rattle.mysql_values.specs.Temporal.{date_time, time_span}
use Rattle.mysql_values.specs.declared.value_kind.ValueKind.{ValueKind}
use Rattle.mysql_values.specs.declared.value_kind.ValueKind.TheVariants as kind
use Rattle.mysql_values.specs.ValueKind.{kind_of}

-- the content is a string that is not empty
abbrev pub has_bytes : Content → Bool
has_bytes (Bytes (first ∷ rest)) = true
has_bytes _ = false

-- a string that is not empty is copied: only this allocates
abbrev pub reads_bytes : Reading Content → Bool
reads_bytes (Ok x) = has_bytes x.0
reads_bytes (Err e) = false

-- the next byte stands for NULL
abbrev pub starts_null : List ℕ → Bool
starts_null [] = false
starts_null (first ∷ rest) = first == 0xfb

abbrev pub null_text : Form Content
null_text = map (λ _. NULL) (bytes 1)

abbrev pub string_value : Form Content
string_value = map Bytes lenenc_string

-- fb, or a length-encoded string
unfoldable pub text_value : Form Content
text_value = looking (λ bytes. either (starts_null bytes) null_text string_value)

pub size-text_value : text_value.size ≡ None
unfolding text_value
size-text_value = refl

-- ---- binary form

-- a number of a given width, signed unless its column is unsigned
abbrev pub integer_of : Width → Bool → ℕ → ℤ
integer_of w true n = pos n
integer_of w false n = cast_signed w n

-- an integer of up to four bytes
abbrev pub short_integer : Width → ℕ → Bool → Form Content
short_integer w width is_unsigned = map (λ n. Int (integer_of w is_unsigned n)) (number width)

abbrev pub long_integer_of : Bool → ℕ → Content
long_integer_of true n = UInt n
long_integer_of false n = Int (cast_signed w64 n)

-- an integer of eight bytes
abbrev pub long_integer : Bool → Form Content
long_integer is_unsigned = map (long_integer_of is_unsigned) (number 8)

abbrev pub date_value : Form Content
date_value = map Date date_time

abbrev pub time_value : Form Content
time_value = map Time time_span

-- the form of a value of a kind
abbrev pub value_of_kind : ValueKind → Bool → Form Content
value_of_kind kind.String u = string_value
value_of_kind kind.Tiny u = short_integer w8 1 u
value_of_kind kind.Short u = short_integer w16 2 u
value_of_kind kind.Long u = short_integer w32 4 u
value_of_kind kind.LongLong u = long_integer u
value_of_kind kind.Float u = map Float (number 4)
value_of_kind kind.Double u = map Double (number 8)
value_of_kind kind.Date u = date_value
value_of_kind kind.DateTime u = date_value
value_of_kind kind.Time u = time_value
value_of_kind kind.Null u = give NULL
value_of_kind kind.Unsupported u = refuse

-- the form of a value, by the type of its column
abbrev pub bin_value : ColumnType → Bool → Form Content
bin_value type u = value_of_kind (kind_of type) u

-- the form of a value in a column; the reader gets whether the column's flags say unsigned
abbrev pub value_in_column : ColumnType × ColumnFlags → Form Content
value_in_column column = bin_value column.0 (has column.1.0 UNSIGNED_FLAG)
