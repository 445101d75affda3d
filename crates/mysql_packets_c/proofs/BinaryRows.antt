-- Binary rows, with their values counted in order.
use Rattle.std.proofs.Common.{◌≡◌, ◌≢◌, ◌<◌, ◌≤◌, ◌+◌, ◌^◌, ◌∷◌, ℕ, zero, suc, Bool, true, false, ◌&&◌, ◌||◌, if◌then◌else◌, List, [], length, map, drop, get_or, replicate, take, refl, sym, ap, ◌∙◌, arith, add-one}
use Rattle.std.proofs.lemmas.Bool.{and_parts}
use Rattle.std.proofs.lemmas.List.{get_or_default, length-map, length-replicate}
use Rattle.std.proofs.lemmas.List.Folds.{list_any_more}
use Rattle.std.specs.Int.{w64, cast_signed}
use Rattle.std.specs.List.{list_all}
use Rattle.mysql_stmt.specs.BinaryRow.{bin_in, takes, takes_row, values_bytes}
use Rattle.mysql_stmt.specs.Bitmap.{bytes_for}
use Rattle.mysql_stmt.specs.NullMarks.{MarksNulls, is_null, null_bit, null_bits}
use Rattle.mysql_stmt.proofs.Nulls.{cell-zeros}
use Rattle.mysql_stmt.proofs.RowBytes.{integer-saturated, length-next}
use Rattle.mysql_values.specs.Value.{Content, NULL, Bytes, Int, UInt, Float, Double, Date, Time}
use Rattle.mysql_wire.specs.Writing.{saturated}
use Rattle.mysql_wire.specs.declared.codes.column_type.ColumnType.{ColumnType}
use Rattle.mysql_wire.specs.declared.codes.column_type.ColumnType.TheVariants as column_type
use Rattle.mysql_packets_c.proofs.BulkCells.{swapped}
use Rattle.mysql_packets_c.proofs.Nulls.{bits-clear, is-null, nulls-more}
use Rattle.mysql_packets_c.specs.ColumnType.{type_of, unsigned_of}
use Rattle.mysql_packets_c.specs.BinaryRow.{cell_in, has_null, is_null_value, takes_value}
use Rattle.mysql_packets_c.specs.Rows.{row_fits}
use Rattle.mysql_packets_c.specs.Value.{is_value, value_content, values_contents}
use Rattle.mysql_packets_c.specs.declared.rows.CColumnType.{CColumnType}
use Rattle.mysql_packets_c.specs.declared.value.CValue.{CValue}

-- the value of a place past the end
abbrev pub no_column : CColumnType
no_column = record { column_type = 0; is_unsigned = 0 }

abbrev pub no_value : CValue
no_value = record { kind = 0; is_negative = 0; month = 0; day = 0; hour = 0; minute = 0; second = 0; reserved = 0; micros = 0; days = 0; number = 0; bytes = record { ref_ptr = (0, 0); now = [] } }

-- the next value of a row
pub fits-from : (columns : List CColumnType) (values : List CValue) (i : ℕ) (c : CColumnType) (v : CValue) → length columns ≡ length values → i < length values
    → row_fits (drop i columns) (drop i values) ≡ (takes_value (get_or columns i c) (get_or values i v) && row_fits (drop (i + 1) columns) (drop (i + 1) values))
fits-from columns values i c v same lt = rw add-one (from columns values i same lt)
  where
    from : (columns : List CColumnType) (values : List CValue) (i : ℕ) → length columns ≡ length values → i < length values
        → row_fits (drop i columns) (drop i values) ≡ (takes_value (get_or columns i c) (get_or values i v) && row_fits (drop (suc i) columns) (drop (suc i) values))
    from [] [] i same lt = absurd (omega (arith, lt))
    from [] (w ∷ values) i same lt = absurd (omega (arith, same))
    from (d ∷ columns) [] i same lt = absurd (omega (arith, same))
    from (d ∷ columns) (w ∷ values) zero same lt = swapped (is_value w) (list_all is_value values) (takes (type_of d) (unsigned_of d) (value_content w)) (takes_row type_of unsigned_of columns (values_contents values))
    from (d ∷ columns) (w ∷ values) (suc i) same lt = from columns values i (omega (arith, same)) (omega (arith, lt))

-- none is left at the end
pub fits-end : (columns : List CColumnType) (values : List CValue) (i : ℕ) → length columns ≡ length values → length values ≤ i → row_fits (drop i columns) (drop i values) ≡ true
fits-end [] [] zero same past = refl
fits-end [] [] (suc i) same past = refl
fits-end [] (v ∷ values) i same past = absurd (omega (arith, same))
fits-end (c ∷ columns) [] i same past = absurd (omega (arith, same))
fits-end (c ∷ columns) (v ∷ values) zero same past = absurd (omega (arith, past))
fits-end (c ∷ columns) (v ∷ values) (suc i) same past = fits-end columns values i (omega (arith, same)) (omega (arith, past))

-- values of a row that fits
pub are-values : (columns : List CColumnType) (values : List CValue) → row_fits columns values ≡ true → list_all is_value values ≡ true
are-values columns values h = (and_parts (list_all is_value values) (takes_row type_of unsigned_of columns (values_contents values)) h).0

-- there is one for each column
pub as-many : (columns : List CColumnType) (values : List CValue) → row_fits columns values ≡ true → length columns ≡ length values
as-many [] [] h = refl
as-many [] (v ∷ values) h = let none : false ≡ true = (and_parts (list_all is_value (v ∷ values)) false h).1 in absurd cc
as-many (c ∷ columns) [] h = absurd cc
as-many (c ∷ columns) (v ∷ values) h =
    let rest = (and_parts (takes_value c v) (row_fits columns values) (sym (swapped (is_value v) (list_all is_value values) (takes (type_of c) (unsigned_of c) (value_content v)) (takes_row type_of unsigned_of columns (values_contents values))) ∙ h)).1 in
    ap suc (as-many columns values rest)

-- ---- numbers of eight bytes

pub longlong-saturated : (c : CColumnType) (v : CValue) → v.kind ≡ 2 → type_of c ≡ column_type.MYSQL_TYPE_LONGLONG → 8 ≡ saturated (length (cell_in c v))
unfolding value_content
longlong-saturated c v two is = rw two (rw is (sym (integer-saturated column_type.MYSQL_TYPE_LONGLONG (cast_signed w64 v.number))))

-- ---- NULL

-- one more value that takes bytes
pub nulls-next : (c : CColumnType) (values : List CValue) (i : ℕ) (v : CValue) (n : ℕ) → i < length values → has_null (take i values) ≡ false
    → n ≡ saturated (length (cell_in c (get_or values i v))) → n ≢ 0 → has_null (take (i + 1) values) ≡ false
nulls-next c = nulls-more value_content (cell_in c) (λ v null. ap (bin_in (type_of c)) (is-null (value_content v) null))

-- what the values before a place take, and whether one of them may be NULL
pub record SoFar (columns : List CColumnType) (values : List CValue) (i len : ℕ) (has_empty : Bool) : Type 0 where
  pub lengths : length columns ≡ length values
  pub fits : row_fits columns values ≡ row_fits (drop i columns) (drop i values)
  pub left : saturated (len + length (values_bytes type_of unsigned_of (drop i columns) (values_contents (drop i values)))) ≡ saturated (length (values_bytes type_of unsigned_of columns (values_contents values)))
  pub small : len < 2 ^ 64
  pub nulls : has_empty ≡ false → has_null (take i values) ≡ false

-- one more value that fits its column
pub one-more : (columns : List CColumnType) (values : List CValue) (i len : ℕ) (has_empty : Bool) (more next : ℕ) (next_empty : Bool)
    → SoFar columns values i len has_empty
    → i < length values
    → takes_value (get_or columns i no_column) (get_or values i no_value) ≡ true
    → more ≡ saturated (length (cell_in (get_or columns i no_column) (get_or values i no_value)))
    → next ≡ saturated (len + more)
    → (next_empty ≡ false → (has_empty ≡ false) × (more ≢ 0))
    → SoFar columns values (i + 1) next next_empty
unfolding saturated
one-more columns values i len has_empty more next next_empty k lt fits is_more is_next empty =
    let column = get_or columns i no_column in
    let value = get_or values i no_value in
    let within : i < length columns = omega (arith, lt, k.lengths) in
    let whole = length-next type_of unsigned_of value_content columns values i column value k.lengths lt
    (get_or_default columns i no_column column within) (get_or_default values i no_value value lt) in
    record {
      lengths = k.lengths;
      fits = k.fits ∙ fits-from columns values i no_column no_value k.lengths lt ∙ ap (λ (b : Bool). b && row_fits (drop (i + 1) columns) (drop (i + 1) values)) fits;
      left = omega (arith, k.left, whole, is_next, is_more);
      small = omega (arith, is_next);
      nulls = λ none. nulls-next column values i no_value more lt (k.nulls (empty none).0) is_more (empty none).1;
    }

-- a bitmap without a bit is that of values without NULL
pub clear-marks : (values : List CValue) (nulls : List ℕ) → has_null values ≡ false → nulls ≡ replicate (bytes_for 2 (length values)) 0 → MarksNulls 2 (values_contents values) nulls
clear-marks values nulls none clear = rw clear (record {
  len = length-replicate (bytes_for 2 (length values)) 0 ∙ ap (bytes_for 2) (sym (length-map values value_content));
  cells = λ i. cell-zeros (bytes_for 2 (length values)) i ∙ sym (bit i);
})
  where
    bit : (i : ℕ) → get_or (null_bits 2 (values_contents values)) i 0 ≡ 0
    bit zero = refl
    bit (suc zero) = refl
    bit (suc (suc i)) = bits-clear value_content values none i

pub ruleset binary_rows = (fits-from, fits-end, as-many, integer-saturated, clear-marks)

pub ruleset counted = (one-more)
