-- Rows of one length whose values are in one list.
use Rattle.std.specs.Prelude.{◌≡◌, ℕ, zero, suc, ◌*◌, List, [], ◌∷◌, length, take, drop, Option, None, unwrap_or, sum_by}
use Rattle.mysql_values.specs.Value.{Content}
use Rattle.mysql_bulk.specs.Row.{row_size}

-- a number of rows with a number of values each
abbrev pub rows_of : ℕ → ℕ → List Content → List (List Content)
rows_of arity zero values = []
rows_of arity (suc count) values = take arity values ∷ rows_of arity count (drop arity values)

-- the waiting rows
abbrev pub waiting_rows : Option ℕ → ℕ → List Content → List (List Content)
waiting_rows arity count values = rows_of (unwrap_or arity 0) count values

-- the values are those of a number of rows, with a total size
pub record IsFlat (arity : Option ℕ) (count size : ℕ) (values : List Content) : Type 0 where
  pub lengths : length values ≡ count * unwrap_or arity 0
  pub none : arity ≡ None → count ≡ 0
  pub size_is : size ≡ sum_by row_size (waiting_rows arity count values)
