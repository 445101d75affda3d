-- A bulk request written row by row.
use Rattle.std.proofs.Common.{◌≡◌, ◌≢◌, ◌<◌, ◌≤◌, ◌+◌, ◌*◌, ◌++◌, ◌∷◌, ◌-◌, ◌^◌, ◌&&◌, ℕ, true, List, [], length, take, drop, refl, sym, ap, ◌∙◌, arith, inl, inr, min, append_assoc, length-append}
use Rattle.std.proofs.lemmas.Bool.{and_parts, cases_lt, leb-true}
use Rattle.std.proofs.lemmas.Grind.{flat_map-append}
use Rattle.std.proofs.lemmas.List.{append-nil, length-map, length-take-le}
use Rattle.std.proofs.lemmas.List.Concat.{length-flat_map}
use Rattle.std.proofs.lemmas.List.Elements.{All-nil, All-push}
use Rattle.std.proofs.Math.Seq.{take-append_seam}
use Rattle.std.specs.List.{list_all}
use Rattle.std.specs.Prelude.{nat_le}
use Rattle.mysql_wire.specs.Writing.{saturated}
use Rattle.mysql_cuts.specs.Cut.{request_size}
use Rattle.mysql_bulk.specs.BulkValue.{Cell, cells_bytes, spells_cells}
use Rattle.mysql_bulk.specs.RequestWriter.{WriterState}
use Rattle.mysql_bulk.specs.ValueRows.{CellsFit, Spells, packing, rows_bytes}
use Rattle.mysql_packets_c.specs.Bulk.{cells_of, declared_type, declared_types, head_for, is_cell, row_bytes, takes_row, writer_of}
use Rattle.mysql_packets_c.specs.BulkByRow.{AddsAsWriter, AddsRow, HoldsRows, buffer_with, may_add, size_with}
use Rattle.mysql_packets_c.specs.Output.{Puts, PutsUnlessTooLong}
use Rattle.mysql_packets_c.specs.declared.rows.CColumnType.{CColumnType}
use Rattle.mysql_packets_c.specs.declared.value.CValue.{CValue}
use Rattle.mysql_packets_c.proofs.BulkCells.{takes-long}
use Rattle.mysql_packets_c.proofs.BulkRows.{head-size, past-limit, size-more, within-limit}

-- ---- the head

-- its length doesn't overflow
pub head-put : (statement_id flags code : ℕ) (types : List CColumnType) (old new : List ℕ) (written : ℕ) → length types < 2 ^ 63 - 7 → PutsUnlessTooLong (head_for statement_id flags types) code old new written
    → Puts (head_for statement_id flags types) code old new written
head-put statement_id flags code types old new written few h = h.puts (λ e. omega (arith, (h.long e).long, head-size statement_id flags types, few))

-- it is a request without rows
pub head-holds : (statement_id flags max : ℕ) (types : List CColumnType) (old new : List ℕ) (written : ℕ) → Puts (head_for statement_id flags types) 0 old new written
    → HoldsRows (writer_of statement_id flags max types) [] (take written new)
head-holds statement_id flags max types old new written h =
    let head = head_for statement_id flags types in
    let bytes : take written new ≡ head ++ [] =
    elim (cases_lt (length old) (length head)) [
      | inl lt ↦ absurd (let code : 0 ≡ 5 = (h.small lt).0 in cc)
      | inr le ↦ ap (λ n. take n new) h.count ∙ ap (take (length head)) (h.fits le).1 ∙ take-append_seam head (drop (length head) old) ∙ sym (append-nil head)
    ] in
    record {
      bytes_are = bytes;
      taken = All-nil (Spells (declared_types types));
      fit = λ some. absurd (some refl);
    }

-- ---- results

-- the bytes with the row are counted without overflow
counted : (limit used more longer : ℕ) (types : List CColumnType) (row : List CValue) → more ≡ saturated (length (row_bytes types row)) → longer ≡ min (used + more) (2 ^ 64 - 1) → longer ≤ limit → limit < 2 ^ 64 - 1
    → longer ≡ size_with used types row
counted limit used more longer types row is sum within top = within-limit limit used more longer (length (row_bytes types row)) is sum within top

pub row-large : (limit used more longer : ℕ) (types : List CColumnType) (row : List CValue) (old : List ℕ) (before : ℕ) → more ≡ saturated (length (row_bytes types row)) → longer ≡ min (used + more) (2 ^ 64 - 1) → limit < longer
    → AddsRow limit used types row 6 old old before before
row-large limit used more longer types row old before is sum past =
    let large = past-limit limit used more longer (length (row_bytes types row)) is sum past in
    record {
      large = λ h. (refl, refl, refl);
      small = λ h. absurd (omega (arith, h, large));
      fits = λ h. absurd (omega (arith, h, large));
    }

pub row-small : (limit used more longer : ℕ) (types : List CColumnType) (row : List CValue) (old : List ℕ) (before : ℕ) → more ≡ saturated (length (row_bytes types row)) → longer ≡ min (used + more) (2 ^ 64 - 1) → longer ≤ limit
    → limit < 2 ^ 64 - 1 → length old < longer → AddsRow limit used types row 5 old old before longer
row-small limit used more longer types row old before is sum within top short =
    let whole = counted limit used more longer types row is sum within top in
    record {
      large = λ h. absurd (omega (arith, h, within, whole));
      small = λ h s. (refl, refl, whole);
      fits = λ h f. absurd (omega (arith, f, short, whole));
    }

pub row-added : (limit used more longer : ℕ) (types : List CColumnType) (row : List CValue) (old new : List ℕ) (before : ℕ) → more ≡ saturated (length (row_bytes types row)) → longer ≡ min (used + more) (2 ^ 64 - 1) → longer ≤ limit
    → limit < 2 ^ 64 - 1 → longer ≤ length old → new ≡ take used old ++ (row_bytes types row ++ drop (used + more) old) → AddsRow limit used types row 0 old new before longer
unfolding saturated
row-added limit used more longer types row old new before is sum within top fits put =
    let whole = counted limit used more longer types row is sum within top in
    let same : used + more ≡ size_with used types row = omega (arith, whole, sum, is, within, top) in
    record {
      large = λ h. absurd (omega (arith, h, within, whole));
      small = λ h s. absurd (omega (arith, s, fits, whole));
      fits = λ h f. (refl, put ∙ ap (λ n. take used old ++ (row_bytes types row ++ drop n old)) same, whole);
    }

-- the row adds its own bytes
pub more-bytes : (limit used more longer : ℕ) (types : List CColumnType) (row : List CValue) → more ≡ saturated (length (row_bytes types row)) → longer ≡ min (used + more) (2 ^ 64 - 1) → longer ≤ limit → limit < 2 ^ 64 - 1
    → more ≡ length (row_bytes types row)
unfolding saturated
more-bytes limit used more longer types row is sum within top = omega (arith, counted limit used more longer types row is sum within top, is, sum, within, top)

-- ---- the writer

module _ (statement_id flags max : ℕ) (types : List CColumnType) where
  abbrev w : WriterState
  w = writer_of statement_id flags max types

  -- the length of a request of the rows
  so-far : (rows : List (List Cell)) (bytes : List ℕ) → HoldsRows (writer_of statement_id flags max types) rows bytes → length bytes ≡ request_size (packing (writer_of statement_id flags max types)) true rows
  so-far rows bytes h =
      omega (
        arith,
        ap length h.bytes_are,
        length-append (head_for statement_id flags types) (rows_bytes (declared_types types) rows),
        head-size statement_id flags types,
        length-flat_map (cells_bytes (declared_types types)) rows,
        length-map types declared_type,
      )

  fits : (rows : List (List Cell)) (row : List CValue) (bytes : List ℕ) → HoldsRows (writer_of statement_id flags max types) rows bytes → length bytes + length (row_bytes types row) ≤ max - 4
      → CellsFit (writer_of statement_id flags max types) rows (cells_of row)
  fits rows row bytes h le = (omega (arith, so-far rows bytes h, size-more types rows row, le), tt)

  fits-not : (rows : List (List Cell)) (row : List CValue) (bytes : List ℕ) → HoldsRows (writer_of statement_id flags max types) rows bytes → max - 4 < length bytes + length (row_bytes types row)
      → CellsFit (writer_of statement_id flags max types) rows (cells_of row) → ⊥
  fits-not rows row bytes h lt f = omega (arith, f.0, so-far rows bytes h, size-more types rows row, lt)

  some-row : (rows : List (List Cell)) (row : List Cell) → rows ++ row ∷ [] ≢ []
  some-row [] row = λ e. cc
  some-row (r ∷ rows) row = λ e. cc

  -- the row follows the others
  pub adds : (rows : List (List Cell)) (row : List CValue) (bytes written : List ℕ) → HoldsRows (writer_of statement_id flags max types) rows bytes → takes_row types row ≡ true → length bytes + length (row_bytes types row) ≤ max - 4
      → written ≡ bytes ++ row_bytes types row → AddsAsWriter (writer_of statement_id flags max types) rows (cells_of row) 0 written
  adds rows row bytes written h taken le is =
      let head = head_for statement_id flags types in
      let cells = cells_of row in
      let spelled = (and_parts (list_all is_cell row) (spells_cells (declared_types types) cells) taken).1 in
      let more : rows_bytes (declared_types types) (rows ++ cells ∷ []) ≡ rows_bytes (declared_types types) rows ++ row_bytes types row =
      flat_map-append (cells_bytes (declared_types types)) rows (cells ∷ []) ∙ ap (λ (l : List ℕ). rows_bytes (declared_types types) rows ++ l) (append-nil (row_bytes types row)) in
      let whole : written ≡ head ++ rows_bytes (declared_types types) (rows ++ cells ∷ []) =
      is ∙ ap (λ (l : List ℕ). l ++ row_bytes types row) h.bytes_are ∙ append_assoc head (rows_bytes (declared_types types) rows) (row_bytes types row) ∙ ap (λ (l : List ℕ). head ++ l) (sym more) in
      record {
        fits = λ e. fits rows row bytes h le;
        holds = λ e. record { bytes_are = whole; taken = All-push (Spells (declared_types types)) rows cells h.taken spelled; fit = λ some. fits rows row bytes h le };
        built = λ e. (some-row rows cells, whole, fits rows row bytes h le);
        full = λ e. absurd (let six : 0 ≡ 6 = e in cc);
      }

  -- it does not fit with them
  pub is-full : (rows : List (List Cell)) (row : List CValue) (bytes written : List ℕ) → HoldsRows (writer_of statement_id flags max types) rows bytes → max - 4 < length bytes + length (row_bytes types row)
      → AddsAsWriter (writer_of statement_id flags max types) rows (cells_of row) 6 written
  is-full rows row bytes written h lt = record {
    fits = λ e. absurd (let none : 6 ≡ 0 = e in cc);
    holds = λ e. absurd (let none : 6 ≡ 0 = e in cc);
    built = λ e. absurd (let none : 6 ≡ 0 = e in cc);
    full = λ e. fits-not rows row bytes h lt;
  }

-- it is refused for another reason
pub says-nothing : (w : WriterState) (rows : List (List Cell)) (row : List Cell) (code : ℕ) (written : List ℕ) → code ≢ 0 → code ≢ 6 → AddsAsWriter w rows row code written
says-nothing w rows row code written done large = record { fits = λ e. absurd (done e); holds = λ e. absurd (done e); built = λ e. absurd (done e); full = λ e. absurd (large e) }

-- the bytes with the row are those before it and its own
with-row : (used : ℕ) (types : List CColumnType) (row : List CValue) (old : List ℕ) → size_with used types row ≤ length old → take (size_with used types row) (buffer_with used types row old) ≡ take used old ++ row_bytes types row
with-row used types row old fits =
    let front = take used old in
    let cells = row_bytes types row in
    let used_long : length front ≡ used = length-take-le used old (omega (arith, fits)) in
    let long : length (front ++ cells) ≡ size_with used types row = omega (arith, length-append front cells, used_long) in
    ap (take (size_with used types row)) (sym (append_assoc front cells (drop (size_with used types row) old)))
    ∙ ap (λ n. take n ((front ++ cells) ++ drop (size_with used types row) old)) (sym long)
    ∙ take-append_seam (front ++ cells) (drop (size_with used types row) old)

used-within : (max used size : ℕ) (types : List CColumnType) → may_add max used size types ≡ true → used ≤ size
used-within max used size types h =
    let first = and_parts (nat_le 4 max) (nat_le 1 (length types) && (nat_le (7 + 2 * length types) used && nat_le used size)) h in
    let second = and_parts (nat_le 1 (length types)) (nat_le (7 + 2 * length types) used && nat_le used size) first.1 in
    let third = and_parts (nat_le (7 + 2 * length types) used) (nat_le used size) second.1 in
    leb-true used size third.1

-- a row that does not fit is one for the writer too
pub add-full : (statement_id flags max used more longer : ℕ) (types : List CColumnType) (row : List CValue) (rows : List (List Cell)) (old written : List ℕ)
    → may_add max used (length old) types ≡ true → more ≡ saturated (length (row_bytes types row)) → longer ≡ min (used + more) (2 ^ 64 - 1) → max - 4 < longer
    → HoldsRows (writer_of statement_id flags max types) rows (take used old) → AddsAsWriter (writer_of statement_id flags max types) rows (cells_of row) 6 written
add-full statement_id flags max used more longer types row rows old written may is sum past h =
    let large = past-limit (max - 4) used more longer (length (row_bytes types row)) is sum past in
    let long = length-take-le used old (used-within max used (length old) types may) in
    is-full statement_id flags max types rows row (take used old) written h (omega (arith, large, long))

-- and a row that fits also fits the builder
pub add-fits : (statement_id flags max used more longer : ℕ) (types : List CColumnType) (row : List CValue) (rows : List (List Cell)) (old new : List ℕ)
    → takes_row types row ≡ true → more ≡ saturated (length (row_bytes types row)) → longer ≡ min (used + more) (2 ^ 64 - 1) → longer ≤ max - 4 → max - 4 < 2 ^ 64 - 1 → longer ≤ length old
    → new ≡ take used old ++ (row_bytes types row ++ drop (used + more) old) → HoldsRows (writer_of statement_id flags max types) rows (take used old)
    → AddsAsWriter (writer_of statement_id flags max types) rows (cells_of row) 0 (take longer new)
unfolding saturated
add-fits statement_id flags max used more longer types row rows old new taken is sum within top fits put h =
    let whole = counted (max - 4) used more longer types row is sum within top in
    let same : used + more ≡ size_with used types row = omega (arith, whole, sum, is, within, top) in
    let there : size_with used types row ≤ length old = omega (arith, whole, fits) in
    let stands : new ≡ buffer_with used types row old = put ∙ ap (λ n. take used old ++ (row_bytes types row ++ drop n old)) same in
    let long = length-take-le used old (omega (arith, there)) in
    let bytes : take longer new ≡ take used old ++ row_bytes types row = ap (λ n. take n new) whole ∙ ap (take (size_with used types row)) stands ∙ with-row used types row old there in
    adds statement_id flags max types rows row (take used old) (take longer new) h taken (omega (arith, long, whole, within)) bytes

pub ruleset bulk_by_row = (head-put, head-holds, row-large, row-small, row-added, more-bytes, says-nothing, takes-long)
