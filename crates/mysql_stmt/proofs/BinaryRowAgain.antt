-- A binary row is read back.
use mir.Val.{bits, hbits}
use Rattle.std.proofs.Common.{◌≡◌, ℕ, suc, ◌+◌, ◌-◌, ◌/◌, ◌%◌, ◌<◌, ◌^◌, ◌==◌, Bool, true, false, List, [], ◌∷◌, ◌++◌, length, map, get_or, Some, Ok, refl, ap, ◌∙◌, arith, append_assoc, ltb-true}
use Rattle.std.specs.Prelude.{ℤ, pos, negsuc, not}
use Rattle.std.specs.Int.{Width, w8, w16, w32, w64, cast_unsigned}
use Rattle.std.specs.Int.RustNames.{FitsSigned}
use Rattle.std.specs.List.{All}
use Rattle.std.proofs.lemmas.Bool.{and_parts}
use Rattle.std.proofs.lemmas.Int.{to_z_pos}
use Rattle.std.proofs.Math.Facts.{to_z-neg}
use Rattle.std.proofs.lemmas.List.Elements.{All-head, All-tail}
use Rattle.mysql_wire.specs.declared.codes.column_type.ColumnType.{ColumnType}
use Rattle.mysql_wire.specs.declared.codes.column_type.ColumnType.TheVariants as column
use Rattle.mysql_wire.specs.declared.skip.Skip.{Skip}
use Rattle.mysql_wire.specs.Each.{each}
use Rattle.mysql_wire.specs.Spelling.{IsSpelling, number-again, skip-again}
use Rattle.mysql_wire.specs.Writing.{le_bytes}
use Rattle.mysql_values.specs.Value.{Content, NULL, Bytes, Int, UInt, Float, Double, Date, Time, bin}
use Rattle.mysql_values.specs.ValueDeserializer.{bin_value, short_integer, integer_of, value_of_kind}
use Rattle.mysql_values.specs.declared.value_kind.ValueKind.{ValueKind}
use Rattle.mysql_values.specs.declared.value_kind.ValueKind.TheVariants as kind
use Rattle.mysql_values.specs.ReadingBack.{IsInRange}
use Rattle.mysql_values.specs.ValueKind.{kind_of, is_longlong}
use Rattle.mysql_values.proofs.ValueAgain.{agrees-by_kind, longlong-kind, value-again}
use Rattle.mysql_stmt.specs.Bitmap.{cell}
use Rattle.mysql_stmt.specs.NullBitmap.{borrowed}
use Rattle.mysql_stmt.specs.NullMarks.{null_bit}
use Rattle.mysql_stmt.specs.RowForm.{there}
use Rattle.mysql_stmt.specs.RowView.{ref_cell, bin_row_of}
use Rattle.mysql_stmt.specs.BinaryRow.{has_width, integer_size, takes_integer, takes, bin_in, takes_row, values_bytes, IsRowBytes}
use Rattle.mysql_stmt.proofs.BitmapAgain.{null_bitmap-again}

-- ---- integers of up to four bytes

low-1 : (x y : ℕ) → x % 256 ≡ y % 256 → le_bytes 1 x ≡ le_bytes 1 y
unfolding le_bytes
low-1 x y e = ap (λ (a : ℕ). a ∷ []) e

low-2 : (x y : ℕ) → x % 65536 ≡ y % 65536 → le_bytes 2 x ≡ le_bytes 2 y
unfolding le_bytes
low-2 x y e =
    let a : x % 256 ≡ y % 256 = omega (arith, e) in
    let b : x / 256 % 256 ≡ y / 256 % 256 = omega (arith, e) in
    ap (λ (p : ℕ). p ∷ x / 256 % 256 ∷ []) a ∙ ap (λ (q : ℕ). y % 256 ∷ q ∷ []) b

low-4 : (x y : ℕ) → x % 4294967296 ≡ y % 4294967296 → le_bytes 4 x ≡ le_bytes 4 y
unfolding le_bytes
low-4 x y e =
    let a : x % 256 ≡ y % 256 = omega (arith, e) in
    let b : x / 256 % 256 ≡ y / 256 % 256 = omega (arith, e) in
    let c : x / 65536 % 256 ≡ y / 65536 % 256 = omega (arith, e) in
    let d : x / 16777216 % 256 ≡ y / 16777216 % 256 = omega (arith, e) in
    ap (λ (p : ℕ). p ∷ x / 256 % 256 ∷ x / 65536 % 256 ∷ x / 16777216 % 256 ∷ []) a
    ∙ ap (λ (q : ℕ). y % 256 ∷ q ∷ x / 65536 % 256 ∷ x / 16777216 % 256 ∷ []) b
    ∙ ap (λ (r : ℕ). y % 256 ∷ y / 256 % 256 ∷ r ∷ x / 16777216 % 256 ∷ []) c
    ∙ ap (λ (s : ℕ). y % 256 ∷ y / 256 % 256 ∷ y / 65536 % 256 ∷ s ∷ []) d

-- an integer of a width, of which a negative one has the low bytes of its eight
module _ (w : Width) (size : ℕ) (whole : 2 ^ bits w ≡ 256 ^ size) (halves : 2 ^ hbits w + 2 ^ hbits w ≡ 2 ^ bits w)
    (low : (k : ℕ) → k < 2 ^ hbits w → le_bytes size (cast_unsigned w64 (negsuc k)) ≡ le_bytes size (2 ^ bits w - suc k)) where
  low-again : (u : Bool) (n : ℤ) (m : ℕ) → m < 2 ^ bits w → integer_of w u m ≡ n → IsSpelling (short_integer w size u) (Int n) (le_bytes size m)
  low-again u n m lt is rest = (m, ap Int is, number-again size m (rw (← whole) lt) rest)

  short-again : (u : Bool) (n : ℤ) → has_width u (2 ^ hbits w) n ≡ true → IsSpelling (short_integer w size u) (Int n) (le_bytes size (cast_unsigned w64 n))
  short-again true (pos m) h = let lt = ltb-true _ _ h in low-again true (pos m) m (omega (arith, lt, halves)) refl
  short-again true (negsuc k) h = let f : false ≡ true = h in absurd cc
  short-again false (pos m) h = let lt = ltb-true _ _ h in low-again false (pos m) m (omega (arith, lt, halves)) (to_z_pos w m lt)
  short-again false (negsuc k) h =
      let lt = ltb-true _ _ h in
      rw (low k lt) (low-again false (negsuc k) (2 ^ bits w - suc k) (omega (arith, lt, halves)) (to_z-neg w k lt))

longlong-again : (u : Bool) (n : ℤ) → FitsSigned w64 n → not u ≡ true → IsSpelling (value_of_kind kind.LongLong u) (Int n) (bin (Int n))
longlong-again true n fits h = let f : false ≡ true = h in absurd cc
longlong-again false n fits h = λ rest. value-again column.MYSQL_TYPE_LONGLONG false (Int n) rest (refl, refl, fits)

integer-again : (k : ValueKind) (u : Bool) (n : ℤ) → FitsSigned w64 n → takes_integer k u n ≡ true → IsSpelling (value_of_kind k u) (Int n) (le_bytes (integer_size k) (cast_unsigned w64 n))
integer-again kind.Tiny u n fits h = short-again w8 1 refl refl (λ k lt. low-1 (2 ^ 64 - suc k) (2 ^ 8 - suc k) (omega (arith, lt))) u n h
integer-again kind.Short u n fits h = short-again w16 2 refl refl (λ k lt. low-2 (2 ^ 64 - suc k) (2 ^ 16 - suc k) (omega (arith, lt))) u n h
integer-again kind.Long u n fits h = short-again w32 4 refl refl (λ k lt. low-4 (2 ^ 64 - suc k) (2 ^ 32 - suc k) (omega (arith, lt))) u n h
integer-again kind.LongLong u n fits h = longlong-again u n fits h
integer-again _ u n fits h = let f : false ≡ true = h in absurd cc

-- ---- values

-- the value of a column with this bit in the bitmap
cell-again : (t : ColumnType) (u : Bool) (v : Content) (bit : ℕ) → bit ≡ null_bit v → takes t u v ≡ true → IsInRange v → (rest : List ℕ)
    → (Rattle.mysql_wire.specs.Form.either (bit == 1) (Rattle.mysql_wire.specs.Form.give NULL) (bin_value t u)).Spells v (bin_in t v ++ rest) rest
cell-again t u NULL bit e h range rest = rw e (refl, refl)
cell-again t u (Bytes bytes) bit e h range rest = rw e (agrees-by_kind t u (Bytes bytes) h range rest)
cell-again t u (Int n) bit e h range rest = rw e (integer-again (kind_of t) u n range h rest)
cell-again t u (UInt n) bit e h range rest = let p = and_parts (is_longlong (kind_of t)) u h in rw e (value-again t u (UInt n) rest (longlong-kind (kind_of t) p.0, p.1, range))
cell-again t u (Float bits) bit e h range rest = rw e (agrees-by_kind t u (Float bits) h range rest)
cell-again t u (Double bits) bit e h range rest = rw e (agrees-by_kind t u (Double bits) h range rest)
cell-again t u (Date date) bit e h range rest = rw e (agrees-by_kind t u (Date date) h range rest)
cell-again t u (Time time) bit e h range rest = rw e (agrees-by_kind t u (Time time) h range rest)

-- ---- rows

module _ {C : Type 0} (type_of : C → ColumnType) (unsigned : C → Bool) where
  values-again : (nulls : List ℕ) (place : ℕ) (columns : List C) (values : List Content) → ((i : ℕ) → cell nulls (place + i + 2) ≡ get_or (map null_bit values) i 0)
      → takes_row type_of unsigned columns values ≡ true → All IsInRange values
      → IsSpelling (each (λ place column. there (ref_cell type_of unsigned nulls 2 place column)) place columns) (map Some values) (values_bytes type_of unsigned columns values)
  unfolding each
  values-again nulls place [] [] bits h ranges rest = (refl, refl)
  values-again nulls place [] (v ∷ vs) bits h ranges rest = let f : false ≡ true = h in absurd cc
  values-again nulls place (c ∷ cs) [] bits h ranges rest = let f : false ≡ true = h in absurd cc
  values-again nulls place (c ∷ cs) (v ∷ vs) bits h ranges rest =
      let p = and_parts (takes (type_of c) (unsigned c) v) (takes_row type_of unsigned cs vs) h in
      let here : place + 2 ≡ place + 0 + 2 = omega arith in
      let mid = values_bytes type_of unsigned cs vs ++ rest in
      let one = cell-again (type_of c) (unsigned c) v (cell nulls (place + 2)) (ap (cell nulls) here ∙ bits 0) p.0 (All-head IsInRange v vs ranges) mid in
      let more = values-again nulls (place + 1) cs vs (λ i. let next : place + 1 + i + 2 ≡ place + suc i + 2 = omega arith in ap (cell nulls) next ∙ bits (suc i)) p.1 (All-tail IsInRange v vs ranges) rest in
      rw append_assoc (Some v, mid, (v, refl, one), (map Some vs, rest, more, (refl, refl)))

  taken-long : (columns : List C) (values : List Content) → takes_row type_of unsigned columns values ≡ true → length values ≡ length columns
  taken-long [] [] h = refl
  taken-long [] (v ∷ vs) h = let f : false ≡ true = h in absurd cc
  taken-long (c ∷ cs) [] h = let f : false ≡ true = h in absurd cc
  taken-long (c ∷ cs) (v ∷ vs) h = ap suc (taken-long cs vs (and_parts (takes (type_of c) (unsigned c) v) (takes_row type_of unsigned cs vs) h).1)

  pub binary_row-again : (columns : List C) (values : List Content) (bytes : List ℕ) → takes_row type_of unsigned columns values ≡ true → All IsInRange values
      → length columns + 9 < 2 ^ 64 → IsRowBytes type_of unsigned columns values bytes → IsSpelling (bin_row_of type_of unsigned 2 columns) (map Some values) bytes
  binary_row-again columns values bytes h ranges few row rest =
      let nulls = row.0 in
      let marks = row.1 in
      let same = taken-long columns values h in
      let mid = values_bytes type_of unsigned columns values ++ rest in
      let header : Skip 1 = record {} in
      let bits : (i : ℕ) → cell nulls (0 + i + 2) ≡ get_or (map null_bit values) i 0 = λ i. let place : 0 + i + 2 ≡ suc (suc i) = omega arith in ap (cell nulls) place ∙ marks.cells (suc (suc i)) in
      let all = values-again nulls 0 columns values bits h ranges rest in
      let map_is = null_bitmap-again 2 (length columns) nulls (omega (arith, few)) (marks.len ∙ ap (Rattle.mysql_stmt.specs.Bitmap.bytes_for 2) same) mid in
      rw (row.2, append_assoc) (header, nulls ++ mid, skip-again 1 header (nulls ++ mid), (borrowed nulls, mid, map_is, all))

  pub binary_row-read : (columns : List C) (values : List Content) (bytes rest : List ℕ) → takes_row type_of unsigned columns values ≡ true → All IsInRange values
      → length columns + 9 < 2 ^ 64 → IsRowBytes type_of unsigned columns values bytes → (bin_row_of type_of unsigned 2 columns).reads (bytes ++ rest) ≡ Ok (map Some values, rest)
  binary_row-read columns values bytes rest h ranges few row =
      (bin_row_of type_of unsigned 2 columns).only (map Some values) (bytes ++ rest) rest (binary_row-again columns values bytes h ranges few row rest)

  pub binary_row-spelled : (columns : List C) (values : List Content) (bytes rest : List ℕ) → takes_row type_of unsigned columns values ≡ true → All IsInRange values
      → length columns + 9 < 2 ^ 64 → IsRowBytes type_of unsigned columns values bytes → (bin_row_of type_of unsigned 2 columns).Spells (map Some values) (bytes ++ rest) rest
  binary_row-spelled columns values bytes rest h ranges few row = binary_row-again columns values bytes h ranges few row rest

pub ruleset binary_rows = (binary_row-spelled, binary_row-read)
