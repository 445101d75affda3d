-- Rows of a bulk request: contents, lengths and sizes.
use Rattle.std.specs.Prelude.{◌≡◌, ℕ, ◌+◌, ◌*◌, ◌<◌, ◌≤◌, ◌⊎◌, Bool, if◌then◌else◌, IsTrue, List, [], ◌∷◌, length, map, sum_by}
use Rattle.std.specs.Global.{Vec}
use Rattle.std.specs.List.{list_any}
use Rattle.mysql_cuts.specs.declared.rule.BulkRule.{BulkRule}
use Rattle.mysql_cuts.specs.Cut.{Packing, WithinRows}
use Rattle.mysql_values.specs.declared.value.Value.{Value}
use Rattle.mysql_values.specs.Value.{Content, contents_of, bin_size}
use Rattle.mysql_values.specs.ValueDeserializer.{has_bytes}

-- what the values of a row contain
abbrev pub contents_of_row : Vec Value → List Content
contents_of_row row = contents_of row.items

-- of each row
abbrev pub contents_of_rows : List (Vec Value) → List (List Content)
contents_of_rows rows = map contents_of_row rows

-- ---- lengths

-- the length of the first row
abbrev pub first_length : List (List Content) → ℕ
first_length [] = 0
first_length (row ∷ rows) = length row

-- the rows have this length
abbrev pub EqualLengths : ℕ → List (List Content) → Type 0
EqualLengths a [] = Unit {0}
EqualLengths a (row ∷ rows) = (length row ≡ a) × EqualLengths a rows

-- each row has the first row's length
abbrev pub OneLength : List (List Content) → Type 0
OneLength rows = EqualLengths (first_length rows) rows

-- ---- sizes

-- the size of a value in a request: its indicator, and its own bytes
abbrev pub param_size : Content → ℕ
param_size value = 1 + bin_size value

-- the size of a row in a request: one for each value, and the value's own
abbrev pub row_size : List Content → ℕ
row_size row = sum_by param_size row

-- the same, for values with these contents
abbrev pub values_size : {V : Type 0} → (V → Content) → List V → ℕ
values_size content row = sum_by (λ value. 1 + bin_size (content value)) row

-- ---- copies

-- a copy of a value is not added: it is too long; or it is not empty, and memory ran out
abbrev pub RefusesValue : (most : ℕ) → Content → Type 0
RefusesValue most value = (most < param_size value) ⊎ IsTrue (has_bytes value)

-- the same of a row
abbrev pub RefusesRow : (most : ℕ) → List Content → Type 0
RefusesRow most row = (most < row_size row) ⊎ IsTrue (list_any has_bytes row)

-- how requests of rows of this length are measured, under a rule and a limit
abbrev pub rows_packing : BulkRule → ℕ → ℕ → Packing (List Content)
rows_packing rule limit arity = record {
  limit = limit;
  arity = arity;
  weight = row_size;
  types_always = rule.types_always;
  max_rows = rule.max_rows;
}

-- this many rows with this many values and this total size may be one request, with or without types
abbrev pub MayBeRequest : BulkRule → (limit arity : ℕ) → (types : Bool) → (count size : ℕ) → Type 0
MayBeRequest rule limit arity types count size = (7 + (if types then 2 * arity else 0) + size ≤ limit) × WithinRows rule.max_rows count
