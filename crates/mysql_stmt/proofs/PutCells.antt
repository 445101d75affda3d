-- A loop that stores the values of a binary row in their cells.
use Rattle.std.proofs.Common.{◌≡◌, ◌==◌, ℕ, ◌+◌, ◌<◌, List, ◌∷◌, [], ◌++◌, length, drop, get_or, Option, Ok, Some, ap}
use Rattle.mysql_replies.specs.declared.column.Column.{Column}
use Rattle.mysql_wire.specs.Each.{each}
use Rattle.mysql_wire.specs.Reading.{Reading, then_read, then_read-ok, done-along}
use Rattle.mysql_wire.proofs.Counted.{with_front}
use Rattle.mysql_wire.proofs.Each.{next-one}
use Rattle.mysql_values.specs.Value.{Content}
use Rattle.mysql_stmt.specs.Bitmap.{cell}
use Rattle.mysql_stmt.specs.RowForm.{bin_cell, bin_value_unless}

-- one more value was stored
pub next-put : (nulls : List ℕ) (offset : ℕ) (before : List (Option Content)) (columns : List Column) (i : ℕ) (bytes : List ℕ) (total : Reading (List (Option Content)))
    → with_front before ((each (bin_cell nulls offset) i (drop i columns)).reads bytes) ≡ total
    → (d : Column) (after : List (Option Content)) (rest : List ℕ) → i < length columns
    → then_read ((bin_value_unless (cell nulls (i + offset) == 1) (get_or columns i d)).reads bytes) (λ v left. Ok (before ++ Some v ∷ [], left)) ≡ Ok (after, rest)
    → with_front after ((each (bin_cell nulls offset) (i + 1) (drop (i + 1) columns)).reads rest) ≡ total
next-put nulls offset before columns i bytes total so_far d after rest lt put =
    let p = then_read-ok ((bin_value_unless (cell nulls (i + offset) == 1) (get_or columns i d)).reads bytes) (λ v left. Ok (before ++ Some v ∷ [], left)) (after, rest) put in
    let one = next-one (bin_cell nulls offset) before columns i bytes total so_far d (Some p.0) p.1 lt (ap (λ (r : Reading Content). then_read r (λ x left. Ok (Some x, left))) p.2) in
    done-along (λ (cells : List (Option Content)) (left : List ℕ). with_front cells ((each (bin_cell nulls offset) (i + 1) (drop (i + 1) columns)).reads left) ≡ total) _ _ _ _ p.3 one
