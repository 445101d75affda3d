-- Values, and their binary form.
use Rattle.std.specs.Prelude.{ℕ, ℤ, Bool, List, [], map, Result, Ok, Err, ◌+◌, ◌^◌, length, nat_lt, if◌then◌else◌}
use Rattle.std.specs.Int.{w64, cast_unsigned}
use Rattle.mysql_wire.specs.Writing.{le_bytes}
use Rattle.mysql_wire.specs.LenEnc.{lenenc_string_bytes}
use Rattle.mysql_values.specs.declared.value.Value.{Value}
use Rattle.mysql_values.specs.declared.value.Value.TheVariants as value
use Rattle.mysql_values.specs.declared.temporal.DateTime.{DateTime}
use Rattle.mysql_values.specs.declared.temporal.TimeSpan.{TimeSpan}
use Rattle.mysql_values.specs.Temporal.{date_time_bytes, date_time_size, time_span_bytes, time_span_size}

-- what a value contains, borrowed or not
pub data Content : Type 0 where
  NULL : Content
  Bytes : List ℕ → Content
  Int : ℤ → Content
  UInt : ℕ → Content
  Float : ℕ → Content
  Double : ℕ → Content
  Date : DateTime → Content
  Time : TimeSpan → Content

abbrev pub date_of : ℕ → ℕ → ℕ → ℕ → ℕ → ℕ → ℕ → DateTime
date_of year month day hour minute second micros = record {
  day = record { year = year; month = month; day = day };
  clock = record { hour = hour; minute = minute; second = second };
  micros = micros;
}

abbrev pub time_of : Bool → ℕ → ℕ → ℕ → ℕ → ℕ → TimeSpan
time_of is_negative days hour minute second micros = record {
  is_negative = is_negative;
  days = days;
  clock = record { hour = hour; minute = minute; second = second };
  micros = micros;
}

abbrev pub content_of : Value → Content
content_of value.NULL = NULL
content_of (value.Bytes bytes) = Bytes bytes.items
content_of (value.Int n) = Int n
content_of (value.UInt n) = UInt n
content_of (value.Float bits) = Float bits
content_of (value.Double bits) = Double bits
content_of (value.Date year month day hour minute second micros) = Date (date_of year month day hour minute second micros)
content_of (value.Time is_negative days hour minute second micros) = Time (time_of is_negative days hour minute second micros)

-- the binary form: nothing, a length-encoded string, 4 or 8 bytes, or a date or time in its shortest form
abbrev pub bin : Content → List ℕ
bin NULL = []
bin (Bytes bytes) = lenenc_string_bytes bytes
bin (Int n) = le_bytes 8 (cast_unsigned w64 n)
bin (UInt n) = le_bytes 8 n
bin (Float bits) = le_bytes 4 bits
bin (Double bits) = le_bytes 8 bits
bin (Date date) = date_time_bytes date
bin (Time time) = time_span_bytes time

-- the size of a length-encoded length
abbrev pub length_size : ℕ → ℕ
length_size n =
    if nat_lt n 251 then 1
    else if nat_lt n (2 ^ 16) then 3
    else if nat_lt n (2 ^ 24) then 4
    else 9

-- the size of the binary form
abbrev pub bin_size : Content → ℕ
bin_size NULL = 0
bin_size (Bytes bytes) = length_size (length bytes) + length bytes
bin_size (Int n) = 8
bin_size (UInt n) = 8
bin_size (Float bits) = 4
bin_size (Double bits) = 8
bin_size (Date date) = date_time_size date
bin_size (Time time) = time_span_size time

abbrev pub size_of : Value → ℕ
size_of v = bin_size (content_of v)

-- what a value that was read contains
abbrev pub contents : {E : Type 0} → Result Value E → Result Content E
contents (Ok v) = Ok (content_of v)
contents (Err e) = Err e

abbrev pub contents_of : List Value → List Content
contents_of values = map content_of values
