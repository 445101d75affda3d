-- A value is read back under its column's type.
use Rattle.std.proofs.Common.{◌≡◌, ℕ, ◌<◌, ◌^◌, ◌==◌, List, [], ◌∷◌, ◌++◌, Bool, true, false, ◌⊎◌, refl, sym, ap, arith, inl, inr, append_assoc, eq-eqb, ◌&&◌}
use Rattle.std.proofs.lemmas.Bool.Decides.{eqb_tells}
use Rattle.std.specs.Int.{w64, cast_unsigned}
use Rattle.std.specs.Prelude.{ℤ}
use Rattle.std.proofs.lemmas.Int.{to_z-of_z}
use Rattle.std.proofs.Math.Facts.{Fits-of_z, Fits-lt-pow}
use Rattle.mysql_wire.specs.Form.{number, bytes}
use Rattle.mysql_wire.specs.Int.{raw, raw_int, byte}
use Rattle.mysql_wire.specs.Writing.{le_bytes}
use Rattle.mysql_wire.specs.Spelling.{IsSpelling, block-again, number-again, le_u16-again, le_u32-again}
use Rattle.mysql_wire.specs.Again.{lenenc_string-again}
use Rattle.mysql_wire.specs.declared.codes.column_type.ColumnType.{ColumnType}
use Rattle.mysql_values.specs.declared.value_kind.ValueKind.{ValueKind}
use Rattle.mysql_values.specs.declared.value_kind.ValueKind.TheVariants as kind
use Rattle.mysql_values.specs.declared.temporal.Day.{Day}
use Rattle.mysql_values.specs.declared.temporal.Clock.{Clock}
use Rattle.mysql_values.specs.declared.temporal.DateTime.{DateTime}
use Rattle.mysql_values.specs.declared.temporal.TimeSpan.{TimeSpan}
use Rattle.mysql_values.specs.Temporal.{day, day_fields, day_bytes, clock, clock_fields, clock_bytes, date_time, date_time_bytes, time_span, time_span_bytes, is_midnight, is_zero_day, zero_day, midnight, sign_byte}
use Rattle.mysql_values.specs.Value.{Content, NULL, Bytes, Int, UInt, Float, Double, Date, Time, bin}
use Rattle.mysql_values.specs.ValueDeserializer.{bin_value, date_value, value_of_kind}
use Rattle.mysql_values.specs.ValueKind.{kind_of, is_date, is_longlong, matches_type}
use Rattle.mysql_values.specs.ReadingBack.{DateFits, TimeFits, ReadsBack, Agrees, IsInRange}
use Rattle.mysql_values.specs.SentType.{sent_type, is_uint}

-- ---- leaves

one_byte : (n : ℕ) (rest : List ℕ) → byte.Spells (raw_int n) (n ∷ rest) rest
unfolding raw number bytes
one_byte n rest = (n, refl, (n ∷ [], omega arith, (refl, refl)))

day-again : (d : Day) → d.year < 2 ^ 16 → IsSpelling day d (day_bytes d)
unfolding day day_bytes le_bytes
day-again d year = block-again 4 day_fields d (day_bytes d) refl (raw_int d.year, d.month ∷ d.day ∷ [], le_u16-again d.year year (d.month ∷ d.day ∷ []), (raw_int d.month, d.day ∷ [], one_byte d.month (d.day ∷ []), (raw_int d.day, [], one_byte d.day [], (refl, refl))))

clock-again : (c : Clock) → IsSpelling clock c (clock_bytes c)
unfolding clock
clock-again c = block-again 3 clock_fields c (clock_bytes c) refl (raw_int c.hour, c.minute ∷ c.second ∷ [], one_byte c.hour (c.minute ∷ c.second ∷ []), (raw_int c.minute, c.second ∷ [], one_byte c.minute (c.second ∷ []), (raw_int c.second, [], one_byte c.second [], (refl, refl))))

-- ---- dates

zero_clock : (hour minute second : ℕ) → hour ≡ 0 → minute ≡ 0 → second ≡ 0 → (let c : Clock = record { hour = hour; minute = minute; second = second } in c) ≡ midnight
zero_clock hour minute second h m s = cc

zero_date : (year month day : ℕ) → year ≡ 0 → month ≡ 0 → day ≡ 0 → (let d : Day = record { year = year; month = month; day = day } in d) ≡ zero_day
zero_date year month day y m d = cc

zeros_tell : (a b c : ℕ) → (((a == 0 && (b == 0 && c == 0)) ≡ true) × (a ≡ 0) × (b ≡ 0) × (c ≡ 0)) ⊎ ((a == 0 && (b == 0 && c == 0)) ≡ false)
zeros_tell a b c = elim (eqb_tells a 0) [
  | inr x ↦ inr (rw x.0 refl)
  | inl x ↦ elim (eqb_tells b 0) [
    | inr y ↦ inr (rw (x.0, y.0) refl)
    | inl y ↦ elim (eqb_tells c 0) [
      | inr z ↦ inr (rw (x.0, y.0, z.0) refl)
      | inl z ↦ inl (rw (x.0, y.0, z.0) refl, x.1, y.1, z.1)
    ]
  ]
]

midnight_tells : (c : Clock) → (is_midnight c ≡ true) × (c ≡ midnight) ⊎ (is_midnight c ≡ false)
midnight_tells c = elim (zeros_tell c.hour c.minute c.second) [
  | inr h ↦ inr h
  | inl h ↦ inl (h.0, zero_clock c.hour c.minute c.second h.1 h.2 h.3)
]

zero_day_tells : (d : Day) → (is_zero_day d ≡ true) × (d ≡ zero_day) ⊎ (is_zero_day d ≡ false)
zero_day_tells d = elim (zeros_tell d.year d.month d.day) [
  | inr h ↦ inr h
  | inl h ↦ inl (h.0, zero_date d.year d.month d.day h.1 h.2 h.3)
]

date_parts : (t : DateTime) (d : Day) (c : Clock) (m : ℕ) → t.day ≡ d → t.clock ≡ c → t.micros ≡ m → t ≡ record { day = d; clock = c; micros = m }
date_parts t d c m p q r = rw (← p, ← q, ← r) refl

date_time-again : (t : DateTime) → DateFits t → (rest : List ℕ) → date_time.Spells t (date_time_bytes t ++ rest) rest
unfolding date_time date_time_bytes
date_time-again t fits rest = elim (eqb_tells t.micros 0) [
  | inr micros ↦ rw (micros.0, append_assoc, append_assoc) (raw_int 11, _, one_byte 11 _, (t.day, _, day-again t.day fits.year _, (t.clock, _, clock-again t.clock _, (raw_int t.micros, rest, le_u32-again t.micros fits.micros rest, (refl, refl)))))
  | inl micros ↦ elim (midnight_tells t.clock) [
    | inr clock_is ↦ rw (micros.0, clock_is, append_assoc) (raw_int 7, _, one_byte 7 _, (t.day, _, day-again t.day fits.year _, (t.clock, rest, clock-again t.clock rest, (date_parts t t.day t.clock 0 refl refl micros.1, refl))))
    | inl clock_is ↦ elim (zero_day_tells t.day) [
      | inr day_is ↦ rw (micros.0, clock_is.0, day_is) (raw_int 4, _, one_byte 4 _, (t.day, rest, day-again t.day fits.year rest, (date_parts t t.day midnight 0 refl clock_is.1 micros.1, refl)))
      | inl day_is ↦ rw (micros.0, clock_is.0, day_is.0) (raw_int 0, rest, one_byte 0 rest, (date_parts t zero_day midnight 0 day_is.1 clock_is.1 micros.1, refl))
    ]
  ]
]

-- ---- spans of time

sign_back : (b : Bool) → (sign_byte b == 1) ≡ b
sign_back true = refl
sign_back false = refl

span_parts : (t : TimeSpan) (b : Bool) (d : ℕ) (c : Clock) (m : ℕ) → t.is_negative ≡ b → t.days ≡ d → t.clock ≡ c → t.micros ≡ m → t ≡ record { is_negative = b; days = d; clock = c; micros = m }
span_parts t b d c m o p q r = rw (← o, ← p, ← q, ← r) refl

not_both : (a b : Bool) → (a ≡ false) ⊎ (b ≡ false) → (a && b) ≡ false
not_both false b h = refl
not_both true b (inl e) = absurd cc
not_both true b (inr e) = e

-- a span with days or a time of day, without microseconds
span-again : (t : TimeSpan) → TimeFits t → t.micros ≡ 0 → (rest : List ℕ) → (t.days == 0 && is_midnight t.clock) ≡ false → time_span.Spells t (time_span_bytes t ++ rest) rest
unfolding time_span time_span_bytes
span-again t fits micros rest some =
    let no_micros : (t.micros == 0) ≡ true = eq-eqb t.micros 0 micros in
    rw (no_micros, some, append_assoc, append_assoc) (raw_int 8, _, one_byte 8 _, (raw_int (sign_byte t.is_negative), _, one_byte (sign_byte t.is_negative) _, (raw_int t.days, _, le_u32-again t.days fits.days _, (t.clock, rest, clock-again t.clock rest, (span_parts t (sign_byte t.is_negative == 1) t.days t.clock 0 (sym (sign_back t.is_negative)) refl refl micros, refl)))))

time_span-again : (t : TimeSpan) → TimeFits t → (rest : List ℕ) → time_span.Spells t (time_span_bytes t ++ rest) rest
unfolding time_span time_span_bytes
time_span-again t fits rest = elim (eqb_tells t.micros 0) [
  | inr micros ↦ rw (micros.0, append_assoc, append_assoc, append_assoc) (raw_int 12, _, one_byte 12 _, (raw_int (sign_byte t.is_negative), _, one_byte (sign_byte t.is_negative) _, (raw_int t.days, _, le_u32-again t.days fits.days _, (t.clock, _, clock-again t.clock _, (raw_int t.micros, rest, le_u32-again t.micros fits.micros rest, (span_parts t (sign_byte t.is_negative == 1) t.days t.clock t.micros (sym (sign_back t.is_negative)) refl refl refl, refl))))))
  | inl micros ↦ elim (eqb_tells t.days 0) [
    | inr days ↦ span-again t fits micros.1 rest (not_both _ _ (inl days.0))
    | inl days ↦ elim (midnight_tells t.clock) [
      | inr clock_is ↦ span-again t fits micros.1 rest (not_both _ _ (inr clock_is))
      | inl clock_is ↦ rw (micros.0, days.0, clock_is.0) (raw_int 0, rest, one_byte 0 rest, (span_parts t false 0 midnight 0 (fits.sign days.1 clock_is.0 micros.1) days.1 clock_is.1 micros.1, refl))
    ]
  ]
]

-- ---- all values

date-kind : (k : ValueKind) (u : Bool) → is_date k ≡ true → value_of_kind k u ≡ date_value
date-kind kind.Date u e = refl
date-kind kind.DateTime u e = refl
date-kind _ u e = absurd cc

pub value-again : (type : ColumnType) (u : Bool) (content : Content) (rest : List ℕ) → ReadsBack type u content → (bin_value type u).Spells content (bin content ++ rest) rest
value-again type u NULL rest h = rw h (refl, refl)
value-again type u (Bytes content) rest h = rw h.0 (content, refl, lenenc_string-again content h.1 rest)
value-again type u (Int x) rest h =
    let fits : cast_unsigned w64 x < 2 ^ 64 = Fits-lt-pow (Fits-of_z h.2) in
    rw (h.0, h.1) (cast_unsigned w64 x, ap Int (to_z-of_z w64 x h.2), number-again 8 (cast_unsigned w64 x) fits rest)
value-again type u (UInt n) rest h = rw (h.0, h.1) (n, refl, number-again 8 n h.2 rest)
value-again type u (Float bits) rest h = rw h.0 (bits, refl, number-again 4 bits h.1 rest)
value-again type u (Double bits) rest h = rw h.0 (bits, refl, number-again 8 bits h.1 rest)
value-again type u (Date date) rest h = rw (date-kind (kind_of type) u h.0) (date, refl, date_time-again date h.1 rest)
value-again type u (Time time) rest h = rw h.0 (time, refl, time_span-again time h.1 rest)

pub agrees-by_type : (type : ColumnType) (u : Bool) (content : Content) → ReadsBack type u content → Agrees type u content
agrees-by_type type u NULL h = tt
agrees-by_type type u (Bytes bytes) h = λ rest. value-again type u (Bytes bytes) rest h
agrees-by_type type u (Int x) h = λ rest. value-again type u (Int x) rest h
agrees-by_type type u (UInt n) h = λ rest. value-again type u (UInt n) rest h
agrees-by_type type u (Float bits) h = λ rest. value-again type u (Float bits) rest h
agrees-by_type type u (Double bits) h = λ rest. value-again type u (Double bits) rest h
agrees-by_type type u (Date date) h = λ rest. value-again type u (Date date) rest h
agrees-by_type type u (Time time) h = λ rest. value-again type u (Time time) rest h

-- ---- values that match the kind of a type

string-matches_type : (k : ValueKind) (bytes : List ℕ) → matches_type k (Bytes bytes) ≡ true → k ≡ kind.String
string-matches_type kind.String bytes h = refl
string-matches_type _ bytes h = absurd cc

float-matches_type : (k : ValueKind) (bits : ℕ) → matches_type k (Float bits) ≡ true → k ≡ kind.Float
float-matches_type kind.Float bits h = refl
float-matches_type _ bits h = absurd cc

double-matches_type : (k : ValueKind) (bits : ℕ) → matches_type k (Double bits) ≡ true → k ≡ kind.Double
double-matches_type kind.Double bits h = refl
double-matches_type _ bits h = absurd cc

date-matches_type : (k : ValueKind) (date : DateTime) → matches_type k (Date date) ≡ true → is_date k ≡ true
date-matches_type kind.Date date h = refl
date-matches_type kind.DateTime date h = refl
date-matches_type _ date h = absurd cc

time-matches_type : (k : ValueKind) (time : TimeSpan) → matches_type k (Time time) ≡ true → k ≡ kind.Time
time-matches_type kind.Time time h = refl
time-matches_type _ time h = absurd cc

integer-matches_type : (k : ValueKind) (x : ℤ) → matches_type k (Int x) ≡ true → ⊥
integer-matches_type _ x h = absurd cc

unsigned-matches_type : (k : ValueKind) (n : ℕ) → matches_type k (UInt n) ≡ true → ⊥
unsigned-matches_type _ n h = absurd cc

-- such a value matches the type
pub agrees-by_kind : (type : ColumnType) (u : Bool) (content : Content) → matches_type (kind_of type) content ≡ true → IsInRange content → Agrees type u content
agrees-by_kind type u NULL h fits = tt
agrees-by_kind type u (Bytes bytes) h fits = agrees-by_type type u (Bytes bytes) (string-matches_type (kind_of type) bytes h, fits)
agrees-by_kind type u (Int x) h fits = absurd (integer-matches_type (kind_of type) x h)
agrees-by_kind type u (UInt n) h fits = absurd (unsigned-matches_type (kind_of type) n h)
agrees-by_kind type u (Float bits) h fits = agrees-by_type type u (Float bits) (float-matches_type (kind_of type) bits h, fits)
agrees-by_kind type u (Double bits) h fits = agrees-by_type type u (Double bits) (double-matches_type (kind_of type) bits h, fits)
agrees-by_kind type u (Date date) h fits = agrees-by_type type u (Date date) (date-matches_type (kind_of type) date h, fits)
agrees-by_kind type u (Time time) h fits = agrees-by_type type u (Time time) (time-matches_type (kind_of type) time h, fits)

pub longlong-kind : (k : ValueKind) → is_longlong k ≡ true → k ≡ kind.LongLong
longlong-kind kind.LongLong h = refl
longlong-kind _ h = absurd cc

-- ---- the type under which a value is sent

reads_back : (content : Content) → IsInRange content → ReadsBack (sent_type content) (is_uint content) content
reads_back NULL h = refl
reads_back (Bytes bytes) h = (refl, h)
reads_back (Int x) h = (refl, refl, h)
reads_back (UInt n) h = (refl, refl, h)
reads_back (Float bits) h = (refl, h)
reads_back (Double bits) h = (refl, h)
reads_back (Date date) h = (refl, h)
reads_back (Time time) h = (refl, h)

pub sent-agrees : (content : Content) → IsInRange content → Agrees (sent_type content) (is_uint content) content
sent-agrees content h = agrees-by_type (sent_type content) (is_uint content) content (reads_back content h)
