-- Dates and times in the binary protocol.
use Rattle.std.specs.Prelude.{◌≡◌, ℕ, Bool, true, false, List, [], ◌∷◌, ◌++◌, ◌==◌, ◌&&◌, Some, None, if◌then◌else◌, refl}
use Rattle.mysql_wire.specs.Writing.{le_bytes}
use Rattle.mysql_wire.specs.Form.{Form, ◌>>=◌, give, refuse, either, block, bytes}
use Rattle.mysql_wire.specs.Int.{byte, le_u16, le_u32}
use Rattle.mysql_values.specs.declared.temporal.Day.{Day}
use Rattle.mysql_values.specs.declared.temporal.Clock.{Clock}
use Rattle.mysql_values.specs.declared.temporal.DateTime.{DateTime}
use Rattle.mysql_values.specs.declared.temporal.TimeSpan.{TimeSpan}

abbrev pub is_zero_day : Day → Bool
is_zero_day d = d.year == 0 && (d.month == 0 && d.day == 0)

abbrev pub is_midnight : Clock → Bool
is_midnight c = c.hour == 0 && (c.minute == 0 && c.second == 0)

-- the year in two bytes, the month, the day
unfoldable pub day_bytes : Day → List ℕ
day_bytes d = le_bytes 2 d.year ++ (d.month ∷ d.day ∷ [])

-- the hour, the minute, the second
abbrev pub clock_bytes : Clock → List ℕ
clock_bytes c = c.hour ∷ c.minute ∷ c.second ∷ []

-- the length, and the fields: trailing fields that are all zero are left out
unfoldable pub date_time_bytes : DateTime → List ℕ
date_time_bytes t =
    if t.micros == 0
    then if is_midnight t.clock
    then if is_zero_day t.day
    then 0 ∷ []
    else 4 ∷ [] ++ day_bytes t.day
    else 7 ∷ [] ++ day_bytes t.day ++ clock_bytes t.clock
    else 11 ∷ [] ++ day_bytes t.day ++ clock_bytes t.clock ++ le_bytes 4 t.micros

-- 1 if negative
abbrev pub sign_byte : Bool → ℕ
sign_byte true = 1
sign_byte false = 0

-- the length, the sign, and the fields: left out if they are all zero; so are zero microseconds
unfoldable pub time_span_bytes : TimeSpan → List ℕ
time_span_bytes t =
    if t.micros == 0
    then if t.days == 0 && is_midnight t.clock
    then 0 ∷ []
    else 8 ∷ sign_byte t.is_negative ∷ [] ++ le_bytes 4 t.days ++ clock_bytes t.clock
    else 12 ∷ sign_byte t.is_negative ∷ [] ++ le_bytes 4 t.days ++ clock_bytes t.clock ++ le_bytes 4 t.micros

-- the length byte, and what follows it
abbrev pub date_time_size : DateTime → ℕ
date_time_size t =
    if t.micros == 0
    then if is_midnight t.clock
    then if is_zero_day t.day then 1 else 5
    else 8
    else 12

abbrev pub time_span_size : TimeSpan → ℕ
time_span_size t =
    if t.micros == 0
    then if t.days == 0 && is_midnight t.clock then 1 else 9
    else 13

-- ---- reading

abbrev pub day_fields : Form Day
day_fields = do
  year ← le_u16
  month ← byte
  day ← byte
  give (record { year = year.0; month = month.0; day = day.0 })

unfoldable pub day : Form Day
day = block 4 day_fields

abbrev pub clock_fields : Form Clock
clock_fields = do
  hour ← byte
  minute ← byte
  second ← byte
  give (record { hour = hour.0; minute = minute.0; second = second.0 })

unfoldable pub clock : Form Clock
clock = block 3 clock_fields

abbrev pub zero_day : Day
zero_day = record { year = 0; month = 0; day = 0 }

abbrev pub midnight : Clock
midnight = record { hour = 0; minute = 0; second = 0 }

abbrev pub date_only : Form DateTime
date_only = do
  day ← day
  give (record { day = day; clock = midnight; micros = 0 })

abbrev pub date_and_clock : Form DateTime
date_and_clock = do
  day ← day
  clock ← clock
  give (record { day = day; clock = clock; micros = 0 })

abbrev pub date_clock_and_micros : Form DateTime
date_clock_and_micros = do
  day ← day
  clock ← clock
  micros ← le_u32
  give (record { day = day; clock = clock; micros = micros.0 })

-- fields that the length leaves out are zero
abbrev pub date_time_from : ℕ → Form DateTime
date_time_from length =
    either (length == 0) (give (record { day = zero_day; clock = midnight; micros = 0 }))
    (either (length == 4) date_only
    (either (length == 7) date_and_clock
    (either (length == 11) date_clock_and_micros refuse)))

-- a length of 0, 4, 7 or 11, and the fields
unfoldable pub date_time : Form DateTime
date_time = do
  length ← byte
  date_time_from length.0

abbrev pub span_without_micros : Form TimeSpan
span_without_micros = do
  sign ← byte
  days ← le_u32
  clock ← clock
  give (record { is_negative = sign.0 == 1; days = days.0; clock = clock; micros = 0 })

abbrev pub span_with_micros : Form TimeSpan
span_with_micros = do
  sign ← byte
  days ← le_u32
  clock ← clock
  micros ← le_u32
  give (record { is_negative = sign.0 == 1; days = days.0; clock = clock; micros = micros.0 })

abbrev pub time_span_from : ℕ → Form TimeSpan
time_span_from length =
    either (length == 0) (give (record { is_negative = false; days = 0; clock = midnight; micros = 0 }))
    (either (length == 8) span_without_micros
    (either (length == 12) span_with_micros refuse))

-- a length of 0, 8 or 12, and the fields; any sign but 1 means not negative
unfoldable pub time_span : Form TimeSpan
time_span = do
  length ← byte
  time_span_from length.0

pub size-date_time : date_time.size ≡ None
unfolding date_time
size-date_time = refl

pub size-time_span : time_span.size ≡ None
unfolding time_span
size-time_span = refl
