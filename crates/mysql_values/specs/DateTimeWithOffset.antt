-- A date and time with its UTC offset, as parameters have it.
use Rattle.std.specs.Prelude.{ℤ, refl}
use Rattle.std.specs.Int.{w16, cast_signed, cast_unsigned}
use Rattle.std.specs.Int.RustNames.{FitsSigned}
use Rattle.std.proofs.Common.{◌<◌, ◌^◌}
use Rattle.std.proofs.lemmas.Int.{to_z-of_z}
use Rattle.std.proofs.Math.Facts.{Fits-of_z, Fits-lt-pow}
use Rattle.mysql_wire.specs.Codec.{Codec, Fields}
use Rattle.mysql_wire.specs.Codecs.{◌>>=◌, give, field, block, packet, leaf, const_u8, u8, u16, u32}
use Rattle.mysql_wire.specs.Form.{Form, map, number}
use Rattle.mysql_wire.specs.Int.{raw_int}
use Rattle.mysql_wire.specs.LittleEndian.{length-le_bytes}
use Rattle.mysql_wire.specs.Spelling.{IsSpelling, number-again}
use Rattle.mysql_wire.specs.Writing.{le_bytes}
use Rattle.mysql_values.specs.declared.date_time_with_offset.DateTimeWithOffset.{DateTimeWithOffset}
use Rattle.mysql_values.specs.declared.date_time_with_offset.InvalidOffsetDateLength.{InvalidOffsetDateLength}

-- a number of two bytes, in two's complement
abbrev pub signed_u16 : Form ℤ
signed_u16 = map (cast_signed w16) (number 2)

pub signed_u16-again : (z : ℤ) → FitsSigned w16 z → IsSpelling signed_u16 z (le_bytes 2 (cast_unsigned w16 z))
signed_u16-again z fits rest =
    let lt : cast_unsigned w16 z < 2 ^ 16 = Fits-lt-pow (Fits-of_z fits) in
    (cast_unsigned w16 z, to_z-of_z w16 z fits, number-again 2 (cast_unsigned w16 z) lt rest)

abbrev pub i16 : {C : Type 0} → Codec C ℤ
i16 = leaf signed_u16 (λ z. le_bytes 2 (cast_unsigned w16 z)) (λ z. 2) (λ z. FitsSigned w16 z)
    (λ z h. length-le_bytes 2 (cast_unsigned w16 z)) (λ z h. signed_u16-again z h)

-- 13, year, month, day, hour, minute, second, microseconds, and the offset in minutes
abbrev pub date_with_offset_fields : Fields (Unit {0}) DateTimeWithOffset DateTimeWithOffset
date_with_offset_fields = do
  length ← field (λ d. record { 0 = record {} }) (const_u8 {T = InvalidOffsetDateLength} 13)
  year ← field (λ d. raw_int d.year) u16
  month ← field (λ d. raw_int d.month) u8
  day ← field (λ d. raw_int d.day) u8
  hour ← field (λ d. raw_int d.hour) u8
  minute ← field (λ d. raw_int d.minute) u8
  second ← field (λ d. raw_int d.second) u8
  micros ← field (λ d. raw_int d.micros) u32
  offset_minutes ← field (λ d. d.offset_minutes) i16
  give (record { year = year.0; month = month.0; day = day.0; hour = hour.0; minute = minute.0; second = second.0; micros = micros.0; offset_minutes = offset_minutes })

-- fourteen bytes
unfoldable pub date_with_offset : Codec (Unit {0}) DateTimeWithOffset
date_with_offset = packet (block 14 date_with_offset_fields (λ d. refl)) (λ d. refl)

-- numbers within their widths
pub record DateWithOffsetFits (d : DateTimeWithOffset) : Type 0 where
  pub year : d.year < 2 ^ 16
  pub month : d.month < 2 ^ 8
  pub day : d.day < 2 ^ 8
  pub hour : d.hour < 2 ^ 8
  pub minute : d.minute < 2 ^ 8
  pub second : d.second < 2 ^ 8
  pub micros : d.micros < 2 ^ 32
  pub offset : FitsSigned w16 d.offset_minutes
