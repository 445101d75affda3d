-- The sum over one column of text rows.
use Rattle.std.specs.Prelude.{◌≡◌, ℕ, ◌+◌, List, [], ◌∷◌, Some, slice_get}
use Rattle.std.specs.Borrow.{Bor}
use Rattle.mysql_packets.specs.Value.{Content}
use Rattle.mysql_packets.specs.FromValueRef.{ContentAsU64}
use Rattle.mysql_packets.specs.RowView.{text_row_left}

-- the row has this number in that place
pub record HasNumber (columns place : ℕ) (row : List ℕ) (n : ℕ) : Type 0 where
  pub value : Content
  pub there : slice_get (text_row_left columns row).values place ≡ Some value
  pub number : ContentAsU64 value n

-- each row has a number there, and this is their sum
abbrev pub SumsTo : (columns place : ℕ) → List (Bor (List ℕ)) → ℕ → Type 0
SumsTo columns place [] total = total ≡ 0
SumsTo columns place (row ∷ rows) total = (n : ℕ) × (m : ℕ) × HasNumber columns place row.now n × SumsTo columns place rows m × (total ≡ n + m)
