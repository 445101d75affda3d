-- Values in C.
use Rattle.std.specs.Prelude.{◌≡◌, ◌<◌, ◌^◌, ℕ, Bool, ◌==◌, ◌-◌, ◌&&◌, ◌||◌, not, nat_le, nat_lt, List, [], map, take, drop, if◌then◌else◌}
use Rattle.std.specs.List.{AllZip}
use Rattle.std.specs.Int.{w64, cast_signed}
use Rattle.mysql_values.specs.ContentEq.{kind_of}
use Rattle.mysql_values.specs.Value.{Content, NULL, Bytes, Int, UInt, Float, Double, Date, Time, date_of, time_of}
use Rattle.mysql_values.specs.ParamValue.{ParamContent, Plain, WithOffset}
use Rattle.mysql_values.specs.declared.date_time_with_offset.DateTimeWithOffset.{DateTimeWithOffset}
use Rattle.mysql_packets_c.specs.declared.value.CValue.{CValue}

-- what the value contains; an invalid kind contains nothing
unfoldable pub value_content : CValue → Content
value_content v =
    if v.kind == 1 then Bytes v.bytes.now
    else if v.kind == 2 then Int (cast_signed w64 v.number)
    else if v.kind == 3 then UInt v.number
    else if v.kind == 4 then Float v.number
    else if v.kind == 5 then Double v.number
    else if v.kind == 6 then Date (date_of v.days v.month v.day v.hour v.minute v.second v.micros)
    else if v.kind == 7 then Time (time_of (not (v.is_negative == 0)) v.days v.hour v.minute v.second v.micros)
    else NULL

-- the date of a value, with its UTC offset in the number
abbrev pub date_with_offset_of : CValue → DateTimeWithOffset
date_with_offset_of v = record {
  year = v.days;
  month = v.month;
  day = v.day;
  hour = v.hour;
  minute = v.minute;
  second = v.second;
  micros = v.micros;
  offset_minutes = cast_signed w64 v.number;
}

-- what the value contains as a parameter, which may be a date with an offset
unfoldable pub param_content : CValue → ParamContent
param_content v = if v.kind == 8 then WithOffset (date_with_offset_of v) else Plain (value_content v)

-- its kind is valid, and its number fits: 4 bytes for a float, 2 for a year
abbrev pub is_value : CValue → Bool
is_value v =
    if v.kind == 4 then nat_lt v.number (2 ^ 32)
    else if v.kind == 6 then nat_lt v.days (2 ^ 16)
    else nat_lt v.kind 8

-- the two's complement of a number of 16 bits, from -32768 to 32767
abbrev pub is_offset : ℕ → Bool
is_offset number = nat_lt number (2 ^ 15) || nat_le (2 ^ 64 - 2 ^ 15) number

-- it is a date with an offset, whose year and offset fit in 16 bits
abbrev pub is_offset_date : CValue → Bool
is_offset_date v = v.kind == 8 && (nat_lt v.days (2 ^ 16) && is_offset v.number)

-- a parameter or an attribute may have it: it is a value, or a date with an offset
abbrev pub is_param : CValue → Bool
is_param v = is_value v || is_offset_date v

abbrev pub values_contents : List CValue → List Content
values_contents values = map value_content values

-- ---- the caller's struct after a value is stored in it

abbrev pub bytes_of : Content → List ℕ
bytes_of (Bytes bytes) = bytes
bytes_of content = []

-- the fields of dates and times are unchanged
pub record KeepsDate (old new : CValue) : Type 0 where
  pub is_negative : new.is_negative ≡ old.is_negative
  pub month : new.month ≡ old.month
  pub day : new.day ≡ old.day
  pub hour : new.hour ≡ old.hour
  pub minute : new.minute ≡ old.minute
  pub second : new.second ≡ old.second
  pub micros : new.micros ≡ old.micros
  pub days : new.days ≡ old.days

-- the fields that the value doesn't need: those of its kind that are 0, and the others unchanged
abbrev pub KeepsOthers : Content → (old new : CValue) → Type 0
KeepsOthers NULL old new = (new.number ≡ 0) × KeepsDate old new
KeepsOthers (Bytes bytes) old new = (new.number ≡ old.number) × KeepsDate old new
KeepsOthers (Int n) old new = KeepsDate old new
KeepsOthers (UInt n) old new = KeepsDate old new
KeepsOthers (Float bits) old new = KeepsDate old new
KeepsOthers (Double bits) old new = KeepsDate old new
KeepsOthers (Date fields) old new = (new.number ≡ 0) × (new.is_negative ≡ 0)
KeepsOthers (Time fields) old new = (new.number ≡ 0) × (new.month ≡ 0) × (new.day ≡ 0) × (new.is_negative < 2)

-- its fields are those of a value with this content, as in the header's table
pub record Sets (content : Content) (old new : CValue) : Type 0 where
  pub kind : new.kind ≡ kind_of content
  pub bytes : new.bytes.now ≡ bytes_of content
  pub others : KeepsOthers content old new
  pub reserved : new.reserved ≡ old.reserved

-- the fields of a date with an offset
pub record SetsDate (old new : CValue) : Type 0 where
  pub kind : new.kind ≡ 8
  pub bytes : new.bytes.now ≡ []
  pub is_negative : new.is_negative ≡ 0
  pub reserved : new.reserved ≡ old.reserved

-- its fields are those of a parameter with this content
abbrev pub SetsParam : ParamContent → (old new : CValue) → Type 0
SetsParam (Plain content) old new = Sets content old new
SetsParam (WithOffset date) old new = SetsDate old new

abbrev pub IsSet : (old new : CValue) → Type 0
IsSet old new = SetsParam (param_content new) old new

-- the first elements are set, and the others are unchanged
pub record SetsFirst (count : ℕ) (before after : List CValue) : Type 0 where
  pub set : AllZip IsSet (take count before) (take count after)
  pub others : drop count after ≡ drop count before
