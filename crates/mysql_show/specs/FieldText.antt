-- Fields as lines.
use Rattle.std.specs.Prelude.{◌≡◌, ℕ, ℤ, pos, negsuc, suc, ◌^◌, ◌-◌, ◌/◌, ◌%◌, Bool, true, false, List, [], ◌∷◌, ◌++◌, Option, Some, None, codes, decimal, map}
use Rattle.std.specs.Fmt.{padded_integral, format_spec, signed_decimal}
use Rattle.std.specs.List.{concat}
use Rattle.hex.specs.Hex.{encode_lower}
use Rattle.mysql_values.specs.Value.{Content, date_of}
use Rattle.mysql_values.specs.declared.date_time_with_offset.DateTimeWithOffset.{DateTimeWithOffset}
use Rattle.mysql_values.specs.Value as value
use Rattle.mysql_values.specs.declared.temporal.DateTime.{DateTime}
use Rattle.mysql_values.specs.declared.temporal.TimeSpan.{TimeSpan}
use Rattle.mysql_show.specs.Fields.{Held, Number, Bytes, Digits, Word, Flag, Value, WithOffset, OptionalNumber, OptionalBytes, Said}
use Rattle.mysql_show.specs.Floats.{IsFloatText, float_in, double_in}

-- bytes: hexadecimal digits after an x
abbrev pub prefixed : List ℕ → List ℕ
prefixed bytes = codes "x" ++ encode_lower bytes

-- a number padded with zeros to a given number of digits
abbrev pub wide : ℕ → ℕ → List ℕ
wide width n = padded_integral (format_spec 32 0 4 width (2 ^ 64 - 1)) false [] (decimal n)

-- hours, minutes, seconds and microseconds
unfoldable pub clock_text : ℕ → ℕ → ℕ → ℕ → List ℕ
clock_text hour minute second micros =
    wide 2 hour ++ (codes ":" ++ (wide 2 minute ++ (codes ":" ++ (wide 2 second ++ (codes "." ++ wide 6 micros)))))

abbrev pub date_text : DateTime → List ℕ
date_text date =
    wide 4 date.day.year ++ (codes "-" ++ (wide 2 date.day.month ++ (codes "-" ++ (wide 2 date.day.day ++ (codes " " ++ clock_text date.clock.hour date.clock.minute date.clock.second date.micros)))))

abbrev pub sign_text : Bool → List ℕ
sign_text true = codes "-"
sign_text false = []

-- a time: days before hours
abbrev pub time_text : TimeSpan → List ℕ
time_text time = sign_text time.is_negative ++ (decimal time.days ++ (codes " " ++ clock_text time.clock.hour time.clock.minute time.clock.second time.micros))

-- minutes as hours and minutes, after a sign
abbrev pub minutes_text : (sign : List ℕ) → ℕ → List ℕ
minutes_text sign minutes = sign ++ (wide 2 (minutes / 60) ++ (codes ":" ++ wide 2 (minutes % 60)))

-- a UTC offset: its sign, hours and minutes
abbrev pub offset_text : ℤ → List ℕ
offset_text (pos minutes) = minutes_text (codes "+") minutes
offset_text (negsuc n) = minutes_text (codes "-") (suc n)

-- a date and time with its offset
abbrev pub offset_date_text : DateTimeWithOffset → List ℕ
offset_date_text d = date_text (date_of d.year d.month d.day d.hour d.minute d.second d.micros) ++ offset_text d.offset_minutes

-- a value that is not a float
abbrev pub value_text : Content → List ℕ
value_text value.NULL = codes "NULL"
value_text (value.Bytes bytes) = prefixed bytes
value_text (value.Int n) = signed_decimal n
value_text (value.UInt n) = decimal n
value_text (value.Float bits) = []
value_text (value.Double bits) = []
value_text (value.Date date) = date_text date
value_text (value.Time time) = time_text time

abbrev pub flag_text : Bool → List ℕ
flag_text true = codes "yes"
flag_text false = codes "no"

-- an optional value
abbrev pub or_none : {A : Type 0} → (A → List ℕ) → Option A → List ℕ
or_none show None = codes "none"
or_none show (Some value) = show value

abbrev pub held_text : Held → List ℕ
held_text (Number n) = decimal n
held_text (Bytes bytes) = prefixed bytes
held_text (Digits bytes) = encode_lower bytes
held_text (Word word) = word
held_text (Flag flag) = flag_text flag
held_text (Value value) = value_text value
held_text (WithOffset date) = offset_date_text date
held_text (OptionalNumber n) = or_none decimal n
held_text (OptionalBytes bytes) = or_none prefixed bytes

-- a name and the field's content
unfoldable pub line_of : Said → List ℕ
line_of field = field.name ++ (codes ": " ++ (held_text field.held ++ codes "\n"))

-- a line for each field
abbrev pub lines_of : List Said → List ℕ
lines_of fields = concat (map line_of fields)

-- ---- floats, whose digits no clause specifies

-- the text is that of the value, which may be a float
abbrev pub IsValueText : Content → List ℕ → Type 0
IsValueText (value.Float bits) text = IsFloatText (float_in bits) text
IsValueText (value.Double bits) text = IsFloatText (double_in bits) text
IsValueText v text = text ≡ value_text v

abbrev pub IsHeldText : Held → List ℕ → Type 0
IsHeldText (Value v) text = IsValueText v text
IsHeldText held text = text ≡ held_text held

-- a name and the field's content
abbrev pub IsLine : Said → List ℕ → Type 0
IsLine field line = (text : List ℕ) × IsHeldText field.held text × (line ≡ field.name ++ (codes ": " ++ (text ++ codes "\n")))

-- a line for each field
abbrev pub AreLines : List Said → List ℕ → Type 0
AreLines [] text = text ≡ []
AreLines (field ∷ fields) text = (line : List ℕ) × (rest : List ℕ) × IsLine field line × AreLines fields rest × (text ≡ line ++ rest)

-- such lines are appended
abbrev pub AppendsLines : List Said → (old new : List ℕ) → Type 0
AppendsLines fields old new = (text : List ℕ) × AreLines fields text × (new ≡ old ++ text)
