-- The sizes of rows, in order.
use Rattle.std.proofs.Common.{◌≡◌, ◌<◌, ◌≤◌, ◌+◌, ◌*◌, ◌-◌, ◌++◌, ◌∷◌, ◌&&◌, ℕ, suc, true, List, [], length, take, drop, slice_set, refl, sym, ap, ◌∙◌, arith}
use Rattle.std.proofs.lemmas.List.{drop-drop, map-append, take_more_set, take-append-drop}
use Rattle.mysql_wire.specs.Writing.{saturated}
use Rattle.mysql_packets_c.specs.Bulk.{row_at, row_bytes, rows_of, takes_row, takes_rows}
use Rattle.mysql_packets_c.specs.BulkSizes.{sizes_of}
use Rattle.mysql_packets_c.specs.declared.rows.CColumnType.{CColumnType}
use Rattle.mysql_packets_c.specs.declared.value.CValue.{CValue}
use Rattle.mysql_packets_c.proofs.BulkRows.{length-rows_of, next-place, row-inside, rows-next}
use Rattle.mysql_packets_c.proofs.FilledRows.{others-kept}

-- the rows from one on are that row and those after it
pub takes-next : (columns : List CColumnType) (rows n : ℕ) (values : List CValue) → n < rows
    → takes_rows columns (rows - n) (drop (n * length columns) values) ≡ (takes_row columns (row_at (length columns) n values) && takes_rows columns (rows - (n + 1)) (drop ((n + 1) * length columns) values))
takes-next columns rows n values lt =
    let one : rows - n ≡ suc (rows - (n + 1)) = omega arith in
    let place : drop (length columns) (drop (n * length columns) values) ≡ drop ((n + 1) * length columns) values =
    drop-drop (length columns) (n * length columns) values ∙ ap (λ k. drop k values) (sym (next-place (length columns) n)) in
    ap (λ k. takes_rows columns k (drop (n * length columns) values)) one
    ∙ ap (λ vs. takes_row columns (row_at (length columns) n values) && takes_rows columns (rows - (n + 1)) vs) place

pub takes-all : (columns : List CColumnType) (rows : ℕ) (values : List CValue) → takes_rows columns rows values ≡ takes_rows columns (rows - 0) (drop (0 * length columns) values)
takes-all columns rows values =
    let none : 0 * length columns ≡ 0 = omega arith in
    let whole : rows - 0 ≡ rows = omega arith in
    rw (none, whole) refl

pub takes-none : (columns : List CColumnType) (rows n : ℕ) (values : List CValue) → rows ≤ n → takes_rows columns (rows - n) values ≡ true
takes-none columns rows n values le = let none : rows - n ≡ 0 = omega arith in rw none refl

-- one more size is in its place
pub size-put : (columns : List CColumnType) (n size : ℕ) (values : List CValue) (sizes : List ℕ) → take n sizes ≡ sizes_of columns (rows_of (length columns) n values) → n < length sizes
    → size ≡ saturated (length (row_bytes columns (row_at (length columns) n values))) → take (n + 1) (slice_set sizes n size) ≡ sizes_of columns (rows_of (length columns) (n + 1) values)
size-put columns n size values sizes so_far fits is =
    take_more_set sizes n size fits
    ∙ ap (λ l. l ++ size ∷ []) so_far
    ∙ ap (λ s. sizes_of columns (rows_of (length columns) n values) ++ s ∷ []) is
    ∙ sym (map-append (λ row. saturated (length (row_bytes columns row))) (rows_of (length columns) n values) (row_at (length columns) n values ∷ []))
    ∙ sym (ap (sizes_of columns) (rows-next (length columns) n values))

-- all of them are there
pub sizes-put : (n : ℕ) (old new front : List ℕ) → take n new ≡ front → drop n new ≡ drop n old → new ≡ front ++ drop n old
sizes-put n old new front first others = sym (take-append-drop n new) ∙ ap (λ l. l ++ drop n new) first ∙ ap (λ l. front ++ l) others

pub ruleset bulk_sizes = (takes-all, takes-next, takes-none, size-put, sizes-put, others-kept, length-rows_of, row-inside)
