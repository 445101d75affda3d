-- The contents of fields.
use Rattle.std.specs.Prelude.{ℕ, ◌||◌, List, [], ◌∷◌, Bool, true, false, Option, option_map}
use Rattle.mysql_values.specs.Value.{Content}
use Rattle.mysql_values.specs.Value as value
use Rattle.mysql_values.specs.ParamValue.{ParamContent}
use Rattle.mysql_values.specs.ParamValue as param
use Rattle.mysql_values.specs.ValueRef.{ref_content}
use Rattle.mysql_values.specs.declared.date_time_with_offset.DateTimeWithOffset.{DateTimeWithOffset}
use Rattle.mysql_show.specs.declared.field.Shown.{Shown}
use Rattle.mysql_show.specs.declared.field.Shown.TheVariants as shows

-- what a field contains, borrowed or not
pub data Held : Type 0 where
  Number : ℕ → Held
  Bytes : List ℕ → Held
  Digits : List ℕ → Held
  Word : List ℕ → Held
  Flag : Bool → Held
  Value : Content → Held
  WithOffset : DateTimeWithOffset → Held
  OptionalNumber : Option ℕ → Held
  OptionalBytes : Option (List ℕ) → Held

-- a field: its name and its content
pub record Said : Type 0 where
  pub name : List ℕ
  pub held : Held

abbrev pub said : List ℕ → Held → Said
said name held = record { name = name; held = held }

abbrev pub held_of : Shown → Held
held_of (shows.Number n) = Number n
held_of (shows.Bytes bytes) = Bytes bytes.now
held_of (shows.Digits bytes) = Digits bytes.now
held_of (shows.Word word) = Word word.now
held_of (shows.Flag flag) = Flag flag
held_of (shows.Value value) = Value (ref_content value)
held_of (shows.DateTimeWithOffset date) = WithOffset date
held_of (shows.OptionalNumber n) = OptionalNumber n
held_of (shows.OptionalBytes bytes) = OptionalBytes (option_map (λ b. b.now) bytes)

-- the value of a parameter or an attribute
abbrev pub param_held : ParamContent → Held
param_held (param.Plain value) = Value value
param_held (param.WithOffset date) = WithOffset date

-- a float, whose digits no clause specifies
abbrev pub value_is_float : Content → Bool
value_is_float (value.Float bits) = true
value_is_float (value.Double bits) = true
value_is_float _ = false

-- a date or a time
abbrev pub is_temporal : Content → Bool
is_temporal (value.Date date) = true
is_temporal (value.Time time) = true
is_temporal _ = false

abbrev pub is_float : Held → Bool
is_float (Value value) = value_is_float value
is_float _ = false

abbrev pub have_float : List Said → Bool
have_float [] = false
have_float (field ∷ fields) = is_float field.held || have_float fields
