-- Which lists of rows are refused.
use Rattle.std.specs.Prelude.{◌≡◌, ℕ, ◌+◌, ◌≤◌, ◌&&◌, List, take, take_while, length, nat_eq, slice_get, Option, Some, None}
use Rattle.mysql_cuts.specs.Cut.{Packing, HasFittingCut}
use Rattle.mysql_values.specs.Value.{Content}
use Rattle.mysql_bulk.specs.declared.error.BulkExecuteRequestError.{BulkExecuteRequestError}
use Rattle.mysql_bulk.specs.declared.error.BulkExecuteRequestError.TheVariants.{MixedArity, MixedTypes, RowTooLarge, MemoryRow, NoParams, Memory}
use Rattle.mysql_bulk.specs.Builder.{BuilderState, packing, TakesArity, arity_after}
use Rattle.mysql_bulk.specs.ColumnTypes.{takes_types, TakesTypes}
use Rattle.mysql_bulk.specs.Row.{contents_of_row, first_length}

-- the longest prefix in which all rows have the first row's length, and the declared types can encode them
abbrev pub taken_front : BuilderState → List (List Content) → List (List Content)
taken_front s rows = take_while (λ row. nat_eq (length row) (first_length rows) && takes_types s.columns row) rows

-- how a builder with these settings measures the rows of a list
abbrev pub measure : BuilderState → List (List Content) → Packing (List Content)
measure s rows = packing s (first_length rows)

-- each prefix of that prefix has a fitting cut
abbrev pub EachFrontFits : BuilderState → List (List Content) → Type 0
EachFrontFits s rows = (n : ℕ) → HasFittingCut (measure s rows) (take n (taken_front s rows))

-- the row after it
abbrev pub IsNextAfterFront : BuilderState → List (List Content) → List Content → Type 0
IsNextAfterFront s rows row = slice_get rows (length (taken_front s rows)) ≡ Some row

-- the row has the length of that prefix's rows, or of the declared types
abbrev pub FrontTakesArity : BuilderState → List (List Content) → List Content → Type 0
FrontTakesArity s rows row = TakesArity (arity_after s.arity (taken_front s rows)) (length row)

-- a row with another length follows that prefix
abbrev pub RefusesArity : BuilderState → List (List Content) → List Content → Type 0
RefusesArity s rows row = EachFrontFits s rows × IsNextAfterFront s rows row × (FrontTakesArity s rows row → ⊥)

-- a row with that length follows it, which the declared types can't encode
abbrev pub RefusesTypes : BuilderState → List (List Content) → List Content → Type 0
RefusesTypes s rows row = EachFrontFits s rows × IsNextAfterFront s rows row × FrontTakesArity s rows row × (TakesTypes s.columns row → ⊥)

-- the shortest prefix without a fitting cut ends with the row
abbrev pub RefusesSize : BuilderState → List (List Content) → List Content → Type 0
RefusesSize s rows row =
    (n : ℕ)
    × (slice_get (taken_front s rows) n ≡ Some row)
    × (HasFittingCut (measure s rows) (take (n + 1) (taken_front s rows)) → ⊥)
    × ((m : ℕ) → m ≤ n → HasFittingCut (measure s rows) (take m (taken_front s rows)))

-- why a list of rows is refused, if it is
abbrev pub RefusalOfRows : BuilderState → List (List Content) → Option BulkExecuteRequestError → Type 0
RefusalOfRows s rows None = EachFrontFits s rows × (taken_front s rows ≡ rows)
RefusalOfRows s rows (Some MixedArity) = (row : List Content) × RefusesArity s rows row
RefusalOfRows s rows (Some (MixedTypes row)) = RefusesTypes s rows (contents_of_row row)
RefusalOfRows s rows (Some (RowTooLarge row)) = RefusesSize s rows (contents_of_row row)
RefusalOfRows s rows _ = ⊥
