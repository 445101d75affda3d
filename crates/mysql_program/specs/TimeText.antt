-- Floats, dates and times as text.
use Rattle.std.specs.Prelude.{ℕ, ◌-◌, ◌^◌, ◌==◌, ◌&&◌, nat_le, Bool, true, false, List, length, take, drop, get_or, Option, Some, None, option_map, if◌then◌else◌}
use Rattle.std.specs.Char.{is_ascii_hexdigit}
use Rattle.std.specs.List.{list_all}
use Rattle.std.specs.Str.Parse.{digits_value, starts_with_minus}
use Rattle.mysql_values.specs.Value.{Content, Float, Double, Date, Time, date_of, time_of}
use Rattle.mysql_program.specs.Decimal.{number_below}
use Rattle.mysql_program.specs.declared.time_text.TimeOfDay.{TimeOfDay}

-- this many hexadecimal digits
unfoldable pub is_bit_word : (count : ℕ) → List ℕ → Bool
is_bit_word count word = length word == count && list_all is_ascii_hexdigit word

-- the bits of a float, as this many hexadecimal digits
abbrev pub bits_of : (count : ℕ) → List ℕ → Option ℕ
bits_of count word = if is_bit_word count word then Some (digits_value 16 word) else None

abbrev pub float_in : List ℕ → Option Content
float_in word = option_map Float (bits_of 8 word)

abbrev pub double_in : List ℕ → Option Content
double_in word = option_map Double (bits_of 16 word)

-- the number below 2 ^ bits in this many characters from a place on
abbrev pub number_at : (bits from count : ℕ) → List ℕ → Option ℕ
number_at bits from count word = number_below (2 ^ bits) (take count (drop from word))

-- ---- a time of day

abbrev pub time_of_day_with : (hour minute second micros : Option ℕ) → Option TimeOfDay
time_of_day_with (Some hour) (Some minute) (Some second) (Some micros) = Some (record { hour = hour; minute = minute; second = second; micros = micros })
time_of_day_with _ _ _ _ = None

-- its length, and the separators between its numbers
unfoldable pub has_time_marks : List ℕ → Bool
has_time_marks word = length word == 16 && (get_or word 0 0 == 84 && (get_or word 3 0 == 58 && (get_or word 6 0 == 58 && get_or word 9 0 == 46)))

-- THH:MM:SS.FFFFFF
abbrev pub time_of_day : List ℕ → Option TimeOfDay
time_of_day word =
    if has_time_marks word then time_of_day_with (number_at 8 1 2 word) (number_at 8 4 2 word) (number_at 8 7 2 word) (number_at 32 10 6 word)
    else None

-- ---- a date

abbrev pub date_with : (year month day : Option ℕ) → Option TimeOfDay → Option Content
date_with (Some year) (Some month) (Some day) (Some t) = Some (Date (date_of year month day t.hour t.minute t.second t.micros))
date_with _ _ _ _ = None

-- the characters of a date, with the separators between its numbers
unfoldable pub has_date_marks : List ℕ → Bool
has_date_marks word = nat_le 10 (length word) && (get_or word 4 0 == 45 && get_or word 7 0 == 45)

-- YYYY-MM-DD, and a time of day
abbrev pub date_in : List ℕ → Option Content
date_in word =
    if has_date_marks word then date_with (number_at 16 0 4 word) (number_at 8 5 2 word) (number_at 8 8 2 word) (time_of_day (drop 10 word))
    else None

-- ---- a duration

abbrev pub span_with : (is_negative : Bool) → (days : Option ℕ) → Option TimeOfDay → Option Content
span_with is_negative (Some days) (Some t) = Some (Time (time_of is_negative days t.hour t.minute t.second t.micros))
span_with is_negative (Some days) None = None
span_with is_negative None t = None

-- the place where a duration's time of day begins
abbrev pub days_end : List ℕ → ℕ
days_end word = length word - 16

abbrev pub span_in : (is_negative : Bool) → List ℕ → Option Content
span_in is_negative word = span_with is_negative (number_below (2 ^ 32) (take (days_end word) word)) (time_of_day (drop (days_end word) word))

-- days and a time of day, after an optional minus
abbrev pub time_in : List ℕ → Option Content
time_in word = if starts_with_minus word then span_in true (drop 1 word) else span_in false word
