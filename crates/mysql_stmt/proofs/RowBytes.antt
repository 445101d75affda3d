-- The bytes of a binary row's values, in order.
use Rattle.std.proofs.Common.{◌≡◌, ℕ, zero, suc, ◌+◌, ◌<◌, ◌≤◌, ◌&&◌, Bool, true, false, IsTrue, List, [], ◌∷◌, ◌++◌, length, map, take, drop, get_or, slice_get, Some, refl, sym, ap, ◌∙◌, arith}
use Rattle.std.specs.Int.{w64, cast_unsigned}
use Rattle.std.specs.Prelude.{ℤ}
use Rattle.std.proofs.lemmas.List.{drop_more, length-append}
use Rattle.mysql_wire.specs.declared.codes.column_type.ColumnType.{ColumnType}
pub use Rattle.mysql_wire.specs.LittleEndian.{length-le_bytes}
pub use Rattle.mysql_wire.proofs.Varlens.{low_bytes}
use Rattle.mysql_wire.specs.Writing.{saturated}
use Rattle.mysql_values.specs.declared.value_kind.ValueKind.{ValueKind}
use Rattle.mysql_values.specs.declared.value_kind.ValueKind.TheVariants as kind
use Rattle.mysql_values.specs.Value.{Content, Int}
use Rattle.mysql_values.specs.ValueKind.{kind_of}
use Rattle.mysql_stmt.specs.BinaryRow.{integer_size, bin_in, takes, takes_param, takes_row, takes_values, values_bytes}
use Rattle.mysql_stmt.specs.ExecuteParam.{Param, Sent, SentAhead, AsSent, contents, value_of}
use Rattle.mysql_values.specs.ParamValue.{Plain, WithOffset}

-- ---- integers

pub integer-small : (k : ValueKind) → integer_size k ≤ 8
integer-small kind.Tiny = omega arith
integer-small kind.Short = omega arith
integer-small kind.Long = omega arith
integer-small kind.LongLong = omega arith
integer-small _ = omega arith

pub length-integer : (t : ColumnType) (n : ℤ) → length (bin_in t (Int n)) ≡ integer_size (kind_of t)
length-integer t n = length-le_bytes (integer_size (kind_of t)) (cast_unsigned w64 n)

pub integer-saturated : (t : ColumnType) (n : ℤ) → saturated (length (bin_in t (Int n))) ≡ integer_size (kind_of t)
unfolding saturated
integer-saturated t n = omega (arith, length-integer t n, integer-small (kind_of t))

pub ruleset row_bytes = (low_bytes, length-le_bytes, integer-small)

-- ---- what is left of a row

module _ {C V : Type 0} (columns : List C) (values : List V) (i : ℕ) (column : C) (value : V)
    (same : length columns ≡ length values) (within : i < length values) (c_is : column ≡ get_or columns i column) (v_is : value ≡ get_or values i value) where
  columns-left : drop i columns ≡ column ∷ drop (i + 1) columns
  columns-left = drop_more columns i column (omega (arith, same, within)) ∙ ap (λ (c : C). c ∷ drop (i + 1) columns) (sym c_is)

  values-left : drop i values ≡ value ∷ drop (i + 1) values
  values-left = drop_more values i value within ∙ ap (λ (v : V). v ∷ drop (i + 1) values) (sym v_is)

module _ {C V : Type 0} (type_of : C → ColumnType) (unsigned : C → Bool) (held : V → Content) (columns : List C) (values : List V) (i : ℕ) (column : C) (value : V)
    (same : length columns ≡ length values) (within : i < length values) (c_is : column ≡ get_or columns i column) (v_is : value ≡ get_or values i value) where
  pub bytes-next : values_bytes type_of unsigned (drop i columns) (map held (drop i values)) ≡ bin_in (type_of column) (held value) ++ values_bytes type_of unsigned (drop (i + 1) columns) (map held (drop (i + 1) values))
  bytes-next =
      let cs = columns-left columns values i column value same within c_is v_is in
      let vs = values-left columns values i column value same within c_is v_is in
      rw (cs, vs) refl

  pub length-next : length (values_bytes type_of unsigned (drop i columns) (map held (drop i values))) ≡ length (bin_in (type_of column) (held value)) + length (values_bytes type_of unsigned (drop (i + 1) columns) (map held (drop (i + 1) values)))
  length-next = ap length bytes-next ∙ length-append (bin_in (type_of column) (held value)) (values_bytes type_of unsigned (drop (i + 1) columns) (map held (drop (i + 1) values)))

module _ {C V : Type 0} (type_of : C → ColumnType) (unsigned : C → Bool) (param : V → Param) (columns : List C) (values : List V) (i : ℕ) (column : C) (value : V)
    (same : length columns ≡ length values) (within : i < length values) (c_is : column ≡ get_or columns i column) (v_is : value ≡ get_or values i value) where
  pub taken-next : takes_values type_of unsigned param (drop i columns) (drop i values) ≡ (takes_param (type_of column) (unsigned column) (param value) && takes_values type_of unsigned param (drop (i + 1) columns) (drop (i + 1) values))
  taken-next =
      let cs = columns-left columns values i column value same within c_is v_is in
      let vs = values-left columns values i column value same within c_is v_is in
      rw (cs, vs) refl

both_parts : (a b : Bool) → IsTrue (a && b) → IsTrue a × IsTrue b
both_parts true b h = (refl, h)
both_parts false b h = let f : IsTrue false = h in absurd cc

-- one more column accepts its value
module _ {C V : Type 0} (type_of : C → ColumnType) (unsigned : C → Bool) (param : V → Param) where
  pub taken_more : (columns : List C) (values : List V) (i : ℕ) (column : C) (value : V) → slice_get columns i ≡ Some column
      → slice_get values i ≡ Some value → IsTrue (takes_param (type_of column) (unsigned column) (param value)) → IsTrue (takes_values type_of unsigned param (take i columns) (take i values))
      → IsTrue (takes_values type_of unsigned param (take (suc i) columns) (take (suc i) values))
  taken_more [] values i column value a b one before = absurd cc
  taken_more (c ∷ cs) [] i column value a b one before = absurd cc
  taken_more (c ∷ cs) (v ∷ vs) zero column value a b one before =
      let s : c ≡ column = cc in
      let t : v ≡ value = cc in
      rw (s, t, one) refl
  taken_more (c ∷ cs) (v ∷ vs) (suc i) column value a b one before =
      let both = both_parts (takes_param (type_of c) (unsigned c) (param v)) (takes_values type_of unsigned param (take i cs) (take i vs)) before in
      rw (both.0) (taken_more cs vs i column value a b one both.1)

-- a column that accepts a parameter accepts its value
taken-value : (t : ColumnType) (u : Bool) (p : Param) → IsTrue (takes_param t u p) → IsTrue (takes t u (value_of p))
taken-value t u (Sent (Plain value)) h = h
taken-value t u (Sent (WithOffset date)) h = let f : IsTrue false = h in absurd cc
taken-value t u SentAhead h = h
taken-value t u (AsSent has_null_bit bytes) h = let f : IsTrue false = h in absurd cc

-- the same for all columns of a row
pub taken-contents : {C V : Type 0} (type_of : C → ColumnType) (unsigned : C → Bool) (param : V → Param) (columns : List C) (values : List V) → IsTrue (takes_values type_of unsigned param columns values)
    → IsTrue (takes_row type_of unsigned columns (contents param values))
taken-contents type_of unsigned param [] [] h = h
taken-contents type_of unsigned param [] (v ∷ vs) h = h
taken-contents type_of unsigned param (c ∷ cs) [] h = h
taken-contents type_of unsigned param (c ∷ cs) (v ∷ vs) h =
    let both = both_parts (takes_param (type_of c) (unsigned c) (param v)) (takes_values type_of unsigned param cs vs) h in
    rw (taken-value (type_of c) (unsigned c) (param v) both.0) (taken-contents type_of unsigned param cs vs both.1)

module _ {C V : Type 0} (type_of : C → ColumnType) (unsigned : C → Bool) (held : V → Content) where
  -- nothing is left after the end of a row
  pub bytes-end : (columns : List C) (values : List V) (i : ℕ) → length columns ≡ length values → length values ≤ i → values_bytes type_of unsigned (drop i columns) (map held (drop i values)) ≡ []
  bytes-end [] [] zero same past = refl
  bytes-end [] [] (suc i) same past = refl
  bytes-end [] (v ∷ vs) i same past = absurd (omega (arith, same))
  bytes-end (c ∷ cs) [] i same past = absurd (omega (arith, same))
  bytes-end (c ∷ cs) (v ∷ vs) zero same past = absurd (omega (arith, past))
  bytes-end (c ∷ cs) (v ∷ vs) (suc i) same past = bytes-end cs vs i (omega (arith, same)) (omega (arith, past))

module _ {C V : Type 0} (type_of : C → ColumnType) (unsigned : C → Bool) (param : V → Param) where
  pub taken-end : (columns : List C) (values : List V) (i : ℕ) → length columns ≡ length values → length values ≤ i → takes_values type_of unsigned param (drop i columns) (drop i values) ≡ true
  taken-end [] [] zero same past = refl
  taken-end [] [] (suc i) same past = refl
  taken-end [] (v ∷ vs) i same past = absurd (omega (arith, same))
  taken-end (c ∷ cs) [] i same past = absurd (omega (arith, same))
  taken-end (c ∷ cs) (v ∷ vs) zero same past = absurd (omega (arith, past))
  taken-end (c ∷ cs) (v ∷ vs) (suc i) same past = taken-end cs vs i (omega (arith, same)) (omega (arith, past))
