-- Which values are read back from their binary form.
use Rattle.std.specs.Prelude.{◌≡◌, ◌<◌, ◌^◌, Bool, IsTrue, IsFalse, length}
use Rattle.std.specs.Int.{w64}
use Rattle.std.specs.Int.RustNames.{FitsSigned}
use Rattle.mysql_wire.specs.declared.codes.column_type.ColumnType.{ColumnType}
use Rattle.mysql_values.specs.declared.value_kind.ValueKind.TheVariants as kind
use Rattle.mysql_values.specs.declared.temporal.DateTime.{DateTime}
use Rattle.mysql_values.specs.declared.temporal.TimeSpan.{TimeSpan}
use Rattle.mysql_wire.specs.Spelling.{IsSpelling}
use Rattle.mysql_values.specs.Value.{Content, NULL, Bytes, Int, UInt, Float, Double, Date, Time, bin}
use Rattle.mysql_values.specs.ValueDeserializer.{bin_value}
use Rattle.mysql_values.specs.Temporal.{is_midnight}
use Rattle.mysql_values.specs.ValueKind.{kind_of, is_date}

-- numbers within their widths
pub record DateFits (t : DateTime) : Type 0 where
  pub year : t.day.year < 2 ^ 16
  pub micros : t.micros < 2 ^ 32

-- numbers within their widths; a zero duration has no sign
pub record TimeFits (t : TimeSpan) : Type 0 where
  pub days : t.days < 2 ^ 32
  pub micros : t.micros < 2 ^ 32
  pub sign : t.days ≡ 0 → IsTrue (is_midnight t.clock) → t.micros ≡ 0 → IsFalse t.is_negative

-- the type is the one under which the content's binary form is read, and its numbers are within their widths
abbrev pub ReadsBack : ColumnType → Bool → Content → Type 0
ReadsBack type is_unsigned NULL = kind_of type ≡ kind.Null
ReadsBack type is_unsigned (Bytes bytes) = (kind_of type ≡ kind.String) × (length bytes < 2 ^ 64)
ReadsBack type is_unsigned (Int x) = (kind_of type ≡ kind.LongLong) × IsFalse is_unsigned × FitsSigned w64 x
ReadsBack type is_unsigned (UInt n) = (kind_of type ≡ kind.LongLong) × IsTrue is_unsigned × (n < 2 ^ 64)
ReadsBack type is_unsigned (Float bits) = (kind_of type ≡ kind.Float) × (bits < 2 ^ 32)
ReadsBack type is_unsigned (Double bits) = (kind_of type ≡ kind.Double) × (bits < 2 ^ 64)
ReadsBack type is_unsigned (Date date) = IsTrue (is_date (kind_of type)) × DateFits date
ReadsBack type is_unsigned (Time time) = (kind_of type ≡ kind.Time) × TimeFits time

-- numbers within their widths, and a sign that isn't lost
abbrev pub IsInRange : Content → Type 0
IsInRange NULL = Unit {0}
IsInRange (Bytes bytes) = length bytes < 2 ^ 64
IsInRange (Int x) = FitsSigned w64 x
IsInRange (UInt n) = n < 2 ^ 64
IsInRange (Float bits) = bits < 2 ^ 32
IsInRange (Double bits) = bits < 2 ^ 64
IsInRange (Date date) = DateFits date
IsInRange (Time time) = TimeFits time

-- a content matches a column's type: it is absent, or its binary form is read as that content, whatever follows
abbrev pub Agrees : ColumnType → Bool → Content → Type 0
Agrees type is_unsigned NULL = Unit {0}
Agrees type is_unsigned content = IsSpelling (bin_value type is_unsigned) content (bin content)
