-- A row of a bulk request, value by value.
use Rattle.std.proofs.Common.{◌≡◌, ◌≢◌, ◌||◌, ◌<◌, ◌≤◌, ◌+◌, ◌-◌, ◌++◌, ◌∷◌, ◌^◌, ℕ, zero, suc, Bool, true, false, ◌&&◌, if◌then◌else◌, List, [], length, map, drop, get_or, min, Option, Some, None, refl, sym, ap, ◌∙◌, inl, inr, append_assoc, arith, add-one}
use Rattle.std.specs.List.{list_all}
use Rattle.std.specs.Option.{option_map, unwrap_or}
use Rattle.std.specs.Prelude.{◌==◌, is_some, nat_le}
use Rattle.std.proofs.lemmas.Bool.{and_parts, and_right, cases_eq, eqb-true, false_from_ne_true, leb-true, ne_eqb}
use Rattle.std.proofs.lemmas.List.{drop-drop, length-append, length-map}
use Rattle.mysql_bulk.specs.BulkValue.{Cell, Given, cell_bytes, cell_spelled, indicator_bytes, spells_cell, spells_cells}
use Rattle.mysql_bulk.proofs.BulkValues.{cells_long}
use Rattle.mysql_stmt.specs.NullMarks.{is_null}
use Rattle.mysql_values.specs.TypedValue.{spelled}
use Rattle.mysql_values.specs.Value.{Content, NULL, Bytes, Int, UInt, Float, Double, Date, Time, bin}
use Rattle.mysql_values.specs.declared.param_type.ParamType.{ParamType}
use Rattle.mysql_wire.specs.ColumnType.{column_type_code, column_type_of}
use Rattle.mysql_wire.specs.MariadbBulkIndicator.{mariadb_bulk_indicator_code}
use Rattle.mysql_wire.specs.Writing.{le_bytes, saturated}
use Rattle.mysql_wire.specs.declared.codes.mariadb_bulk_indicator.MariadbBulkIndicator.TheVariants.{BULK_INDICATOR_NONE}
use Rattle.mysql_packets_c.specs.Bulk.{cell_of, cells_of, declared_type, declared_types, is_cell, is_plain, row_bytes, takes_row, takes_value, value_bytes}
use Rattle.mysql_packets_c.specs.Value.{is_value, value_content}
use Rattle.mysql_packets_c.specs.declared.rows.CColumnType.{CColumnType}
use Rattle.mysql_packets_c.specs.declared.value.CValue.{CValue}

-- ---- a value under a type

abbrev after_indicator : Option (List ℕ) → Option (List ℕ)
after_indicator o = option_map (λ bytes. indicator_bytes BULK_INDICATOR_NONE ++ bytes) o

after-some : (o : Option (List ℕ)) (bytes : List ℕ) → Some bytes ≡ o → (is_some (after_indicator o) ≡ true) × (unwrap_or (after_indicator o) [] ≡ 0 ∷ bytes)
unfolding le_bytes mariadb_bulk_indicator_code
after-some (Some other) bytes e = let same : bytes ≡ other = cc in (refl, ap (λ (l : List ℕ). 0 ∷ l) (sym same))
after-some None bytes e = absurd cc

after-none : (o : Option (List ℕ)) → None ≡ o → (is_some (after_indicator o) ≡ false) × (unwrap_or (after_indicator o) [] ≡ [])
after-none (Some other) e = absurd cc
after-none None e = (refl, refl)

pub given-some : (t : ParamType) (c : Content) (bytes : List ℕ) → Some bytes ≡ spelled t c → (spells_cell t (Given c) ≡ true) × (cell_bytes t (Given c) ≡ (if is_null c then 1 else 0) ∷ bytes)
unfolding le_bytes mariadb_bulk_indicator_code
given-some t NULL bytes e = let same : bytes ≡ [] = cc in (refl, ap (λ (l : List ℕ). 1 ∷ l) (sym same))
given-some t (Bytes b) bytes e = after-some (spelled t (Bytes b)) bytes e
given-some t (Int n) bytes e = after-some (spelled t (Int n)) bytes e
given-some t (UInt n) bytes e = after-some (spelled t (UInt n)) bytes e
given-some t (Float bits) bytes e = after-some (spelled t (Float bits)) bytes e
given-some t (Double bits) bytes e = after-some (spelled t (Double bits)) bytes e
given-some t (Date fields) bytes e = after-some (spelled t (Date fields)) bytes e
given-some t (Time fields) bytes e = after-some (spelled t (Time fields)) bytes e

pub given-none : (t : ParamType) (c : Content) → None ≡ spelled t c → (spells_cell t (Given c) ≡ false) × (cell_bytes t (Given c) ≡ [])
given-none t NULL e = absurd cc
given-none t (Bytes b) e = after-none (spelled t (Bytes b)) e
given-none t (Int n) e = after-none (spelled t (Int n)) e
given-none t (UInt n) e = after-none (spelled t (UInt n)) e
given-none t (Float bits) e = after-none (spelled t (Float bits)) e
given-none t (Double bits) e = after-none (spelled t (Double bits)) e
given-none t (Date fields) e = after-none (spelled t (Date fields)) e
given-none t (Time fields) e = after-none (spelled t (Time fields)) e

-- its length
pub given-len : (t : ParamType) (c : Content) (bytes : List ℕ) (n m : ℕ) → Some bytes ≡ spelled t c → n ≡ saturated (length bytes) → m ≡ min (n + 1) (2 ^ 64 - 1) → m ≡ saturated (length (cell_bytes t (Given c)))
unfolding saturated
given-len t c bytes n m e is sum = omega (arith, is, sum, ap length (given-some t c bytes e).1)

-- ---- a value of C's

pub default-value : (column : CColumnType) (v : CValue) → v.kind ≡ 9 → (takes_value column v ≡ true) × (value_bytes column v ≡ 2 ∷ [])
unfolding le_bytes mariadb_bulk_indicator_code
default-value column v e = rw e (refl, refl)

pub ignore-value : (column : CColumnType) (v : CValue) → v.kind ≡ 10 → (takes_value column v ≡ true) × (value_bytes column v ≡ 3 ∷ [])
unfolding le_bytes mariadb_bulk_indicator_code
ignore-value column v e = rw e (refl, refl)

pub default-len : (column : CColumnType) (v : CValue) → v.kind ≡ 9 → (takes_value column v ≡ true) × (1 ≡ saturated (length (value_bytes column v)))
unfolding saturated
default-len column v e = let is = default-value column v e in (is.0, omega (arith, ap length is.1))

pub ignore-len : (column : CColumnType) (v : CValue) → v.kind ≡ 10 → (takes_value column v ≡ true) × (1 ≡ saturated (length (value_bytes column v)))
unfolding saturated
ignore-len column v e = let is = ignore-value column v e in (is.0, omega (arith, ap length is.1))

-- any other one is given, or invalid
pub given-value : (column : CColumnType) (v : CValue) → (v.kind ≡ 9 → ⊥) → (v.kind ≡ 10 → ⊥)
    → (takes_value column v ≡ (is_value v && spells_cell (declared_type column) (Given (if is_value v then value_content v else NULL))))
    × (value_bytes column v ≡ cell_bytes (declared_type column) (Given (if is_value v then value_content v else NULL)))
given-value column v nine ten = rw (ne_eqb v.kind 9 nine, ne_eqb v.kind 10 ten) (plain (is_value v), refl)
  where
    plain : (b : Bool) → ((b || false) && spells_cell (declared_type column) (Given (if b then value_content v else NULL))) ≡ (b && spells_cell (declared_type column) (Given (if b then value_content v else NULL)))
    plain true = refl
    plain false = refl

-- NULL, numbers of eight bytes and texts
abbrev IsPlainly : CColumnType → CValue → Type 0
IsPlainly column v = (v.kind < 3) × (takes_value column v ≡ true) × (value_bytes column v ≡ (if is_null (value_content v) then 1 else 0) ∷ bin (value_content v))

null-plain : (column : CColumnType) (v : CValue) → v.kind ≡ 0 → IsPlainly column v
unfolding le_bytes mariadb_bulk_indicator_code value_content
null-plain column v e = rw e (omega arith, refl, refl)

text-plain : (column : CColumnType) (v : CValue) → v.kind ≡ 1 → 252 ≤ column.column_type → column.column_type ≤ 254 → IsPlainly column v
unfolding column_type_code column_type_of le_bytes mariadb_bulk_indicator_code value_content
text-plain column v e low high = elim (cases_eq column.column_type 252) [
  | inl blob ↦ rw (e, blob) (omega arith, refl, refl)
  | inr not_blob ↦ elim (cases_eq column.column_type 253) [
    | inl var_string ↦ rw (e, var_string) (omega arith, refl, refl)
    | inr not_var ↦ let string : column.column_type ≡ 254 = omega (arith, low, high, not_blob, not_var) in rw (e, string) (omega arith, refl, refl)
  ]
]

number-plain : (column : CColumnType) (v : CValue) → v.kind ≡ 2 → column.column_type ≡ 8 → column.is_unsigned ≡ 0 → IsPlainly column v
unfolding column_type_code column_type_of le_bytes mariadb_bulk_indicator_code value_content
number-plain column v e longlong signed = rw (e, longlong, signed) (omega arith, refl, refl)

pub plain-value : (column : CColumnType) (v : CValue) → is_plain column v ≡ true → IsPlainly column v
unfolding column_type_code
plain-value column v h = elim (cases_eq v.kind 0) [
  | inl none ↦ null-plain column v none
  | inr some ↦ elim (cases_eq v.kind 1) [
    | inl text ↦ text-of text h
    | inr not_text ↦ elim (cases_eq v.kind 2) [
      | inl number ↦ number-of number h
      | inr other ↦ absurd (no-other some not_text other h)
    ]
  ]
]
  where
    text-of : v.kind ≡ 1 → is_plain column v ≡ true → IsPlainly column v
    text-of e h =
        let parts = and_parts (nat_le 252 column.column_type) (nat_le column.column_type 254) (rw e at h) in
        text-plain column v e (leb-true 252 column.column_type parts.0) (leb-true column.column_type 254 parts.1)

    number-of : v.kind ≡ 2 → is_plain column v ≡ true → IsPlainly column v
    number-of e h =
        let parts = and_parts (column.column_type == 8) (column.is_unsigned == 0) (rw e at h) in
        number-plain column v e (eqb-true column.column_type 8 parts.0) (eqb-true column.is_unsigned 0 parts.1)

    no-other : (v.kind ≡ 0 → ⊥) → (v.kind ≡ 1 → ⊥) → (v.kind ≡ 2 → ⊥) → is_plain column v ≡ true → ⊥
    no-other some one two h = let bad : false ≡ true = rw (ne_eqb v.kind 0 some, ne_eqb v.kind 1 one, ne_eqb v.kind 2 two) at h in absurd cc

pub plain-len : (column : CColumnType) (v : CValue) (n m : ℕ) → is_plain column v ≡ true → n ≡ saturated (length (bin (value_content v))) → m ≡ min (n + 1) (2 ^ 64 - 1) → m ≡ saturated (length (value_bytes column v))
unfolding saturated
plain-len column v n m h is sum = omega (arith, is, sum, ap length (plain-value column v h).2)

-- ---- one value more of a row

pub swapped : (a b c d : Bool) → ((a && b) && (c && d)) ≡ ((a && c) && (b && d))
swapped true true c d = by c d
  where
    by : (c d : Bool) → (c && d) ≡ (c && (true && d))
    by true d = refl
    by false d = refl
swapped true false true d = refl
swapped true false false d = refl
swapped false b c d = refl

pub bytes-from : (columns : List CColumnType) (row : List CValue) (i : ℕ) (c : CColumnType) (v : CValue) → length columns ≡ length row → i < length row
    → row_bytes (drop i columns) (drop i row) ≡ value_bytes (get_or columns i c) (get_or row i v) ++ row_bytes (drop (i + 1) columns) (drop (i + 1) row)
bytes-from columns row i c v same lt = rw add-one (from columns row i same lt)
  where
    from : (columns : List CColumnType) (row : List CValue) (i : ℕ) → length columns ≡ length row → i < length row
        → row_bytes (drop i columns) (drop i row) ≡ value_bytes (get_or columns i c) (get_or row i v) ++ row_bytes (drop (suc i) columns) (drop (suc i) row)
    from [] [] i same lt = absurd (omega (arith, lt))
    from [] (w ∷ row) i same lt = absurd (omega (arith, same))
    from (d ∷ columns) [] i same lt = absurd (omega (arith, same))
    from (d ∷ columns) (w ∷ row) zero same lt = refl
    from (d ∷ columns) (w ∷ row) (suc i) same lt = from columns row i (omega (arith, same)) (omega (arith, lt))

-- a row has a value for each column
pub takes-long : (columns : List CColumnType) (row : List CValue) → length columns ≢ length row → takes_row columns row ≡ false
takes-long columns row n = and_right (list_all is_cell row) (spells_cells (declared_types columns) (cells_of row))
    (false_from_ne_true (spells_cells (declared_types columns) (cells_of row)) (λ e. n (sym (sym (length-map row cell_of) ∙ cells_long (declared_types columns) (cells_of row) e ∙ length-map columns declared_type))))

pub ruleset bulk_cells = (given-none, given-some, given-len, default-len, ignore-len, given-value, plain-value, plain-len)
