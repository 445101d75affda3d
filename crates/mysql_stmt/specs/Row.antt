-- Rows: values with their columns, and the index of a column name.
use Rattle.std.specs.Prelude.{◌≡◌, ℕ, List, [], ◌∷◌, Option, Some, None, Result, Ok, Err, IsFalse, nat_eq, slice_index_or, slice_set}
use Rattle.std.specs.List.{position}
use Rattle.std.specs.Cmp.Lexicographic.{pointwise}
use Rattle.mysql_replies.specs.declared.column.Column.{Column}
use Rattle.mysql_replies.specs.Column as column
use Rattle.mysql_values.specs.ByContent.{IsConvertible}
use Rattle.mysql_values.specs.declared.from_value.FromValueError.{FromValueError}
use Rattle.mysql_values.specs.declared.value.Value.{Value}
use Rattle.mysql_values.specs.Value.{content_of}
use Rattle.mysql_values.specs.ValueDeserializer.{has_bytes}

-- a row: an optional value for each column
pub record Cells : Type 0 where
  pub cells : List (Option Value)
  pub columns : List Column

-- the least index whose column has this name
abbrev pub place_of_name : List ℕ → List Column → Option ℕ
place_of_name name columns = position (λ c. pointwise nat_eq (column.name c) name) columns

-- the value at an index; none past the end
abbrev pub value_at : List (Option Value) → Option ℕ → Option Value
value_at cells None = None
value_at cells (Some i) = slice_index_or cells i None

-- the cells without the value at an index; an index past the end changes nothing
abbrev pub without : List (Option Value) → Option ℕ → List (Option Value)
without cells None = cells
without cells (Some i) = slice_set cells i None

-- each value is present
abbrev pub AllThere : List (Option Value) → Type 0
AllThere [] = Unit {0}
AllThere (None ∷ cells) = ⊥
AllThere (Some value ∷ cells) = AllThere cells

-- ---- conversions

-- a result if there is a value, and none if there is not
abbrev pub Answered : {X Y : Type 0} → (X → Y → Type 0) → Option X → Option Y → Type 0
Answered R None None = Unit {0}
Answered R None (Some y) = ⊥
Answered R (Some x) None = ⊥
Answered R (Some x) (Some y) = R x y

module _ {X : Type 0} (Converts : Value → X → Type 0) where
  -- the value converted to another type, or the value itself if it can't be
  abbrev pub ConvertsTo : Value → Result X FromValueError → Type 0
  ConvertsTo value (Ok x) = Converts value x
  ConvertsTo value (Err refusal) = (refusal.0 ≡ value) × ((x : X) → Converts value x → ⊥)

  -- the same for a copy
  abbrev pub CopyConvertsTo : Value → Result X FromValueError → Type 0
  CopyConvertsTo value answer = (copy : Value) × (content_of copy ≡ content_of value) × ConvertsTo copy answer

  abbrev pub IsCopyAs : Value → X → Type 0
  IsCopyAs value x = (copy : Value) × (content_of copy ≡ content_of value) × Converts copy x

-- ---- values by index

-- each value that may be found can be converted
abbrev pub FoundConverts : {X : Type 0} → (Finds : Option ℕ → Type 0) → List (Option Value) → (Value → X → Type 0) → Type 0
FoundConverts Finds cells Converts = (place : Option ℕ) (value : Value) → Finds place → value_at cells place ≡ Some value → IsConvertible Converts value

-- no value that may be found is a string that is not empty, whose copy alone allocates
abbrev pub FindsNoBytes : (Finds : Option ℕ → Type 0) → List (Option Value) → Type 0
FindsNoBytes Finds cells = (place : Option ℕ) (value : Value) → Finds place → value_at cells place ≡ Some value → IsFalse (has_bytes (content_of value))

-- the result is made of the value at an index that is found; there is none without a value
abbrev pub AnswersFound : {Y : Type 0} → (Finds : Option ℕ → Type 0) → List (Option Value) → (Value → Y → Type 0) → Option Y → Type 0
AnswersFound Finds cells Makes answer = (place : Option ℕ) × Finds place × Answered Makes (value_at cells place) answer

-- the same, and the value is taken out
abbrev pub TakesFound : {Y : Type 0} → (Finds : Option ℕ → Type 0) → (before after : List (Option Value)) → (Value → Y → Type 0) → Option Y → Type 0
TakesFound Finds before after Makes answer = (place : Option ℕ) × Finds place × Answered Makes (value_at before place) answer × (after ≡ without before place)
