-- A value under a type is read back under it.
use Rattle.std.proofs.Common.{◌≡◌, ℕ, suc, ◌*◌, ◌-◌, ◌<◌, ◌^◌, List, [], Bool, true, false, not, ◌&&◌, ◌||◌, Option, Some, None, refl, sym, ap, ◌∙◌, subst, arith}
use Rattle.std.proofs.lemmas.Bool.{ltb-true}
use Rattle.std.proofs.lemmas.Int.{to_z-of_z}
use Rattle.std.proofs.lemmas.Option.{cond_some, same_Some}
use Rattle.mysql_wire.specs.declared.codes.column_type.ColumnType.{ColumnType}
use Rattle.std.specs.Int.RustNames.{FitsSigned}
use Rattle.std.specs.Int.{Width, w8, w16, w32, w64, w128, cast_signed, is_negative}
use mir.Val.{bits, hbits}
use Rattle.std.specs.Option.{option_map}
use Rattle.std.specs.Prelude.{ℤ, pos, negsuc, nat_lt}
use Rattle.mysql_wire.specs.Spelling.{IsSpelling, number-again}
use Rattle.mysql_wire.specs.Writing.{le_bytes}
use Rattle.mysql_values.specs.declared.param_type.ParamType.{ParamType}
use Rattle.mysql_values.specs.declared.value_kind.ValueKind.{ValueKind}
use Rattle.mysql_values.specs.declared.value_kind.ValueKind.TheVariants as kind
use Rattle.mysql_values.specs.ReadingBack.{IsInRange}
use Rattle.mysql_values.specs.TypedValue.{content_bits, is_unsigned_type, number_bits, number_read, some_spelled, spelled, spells_wide, wide_value, ReadsUnder}
use Rattle.mysql_values.specs.Value.{Content, NULL, Bytes, Int, UInt, Float, Double, Date, Time, bin}
use Rattle.mysql_values.specs.ValueDeserializer.{bin_value, integer_of, short_integer}
use Rattle.mysql_values.specs.ValueKind.{kind_of, matches_type}
use Rattle.mysql_values.proofs.ValueAgain.{value-again, agrees-by_kind}

-- ---- numbers of fewer than eight bytes

two_halves : (w : Width) → 2 ^ bits w ≡ 2 * 2 ^ hbits w
two_halves w8 = refl
two_halves w16 = refl
two_halves w32 = refl
two_halves w64 = refl
two_halves w128 = refl

-- the bits of a number are those that it is read from
bits_read : (w : Width) (width : ℕ) → 2 * 2 ^ hbits w ≡ 256 ^ width → (u : Bool) (z : ℤ) (n : ℕ) → number_bits (2 ^ hbits w) u z ≡ Some n → (integer_of w u n ≡ z) × (n < 256 ^ width)
bits_read w width whole true (pos m) n e =
    let b : (nat_lt m (2 * 2 ^ hbits w) ≡ true) × (m ≡ n) = cond_some _ m n e in
    (ap pos (sym b.1), omega (arith, ltb-true m (2 * 2 ^ hbits w) b.0, b.1, whole))
bits_read w width whole false (pos m) n e =
    let b = cond_some _ m n e in
    let lt = ltb-true m (2 ^ hbits w) b.0 in
    (ap (cast_signed w) (sym b.1) ∙ to_z-of_z w (pos m) (record { sfits = lt }), omega (arith, lt, b.1, whole))
bits_read w width whole true (negsuc m) n e = absurd cc
bits_read w width whole false (negsuc m) n e =
    let b = cond_some _ (2 * 2 ^ hbits w - suc m) n e in
    let lt = ltb-true m (2 ^ hbits w) b.0 in
    let is : 2 ^ bits w - suc m ≡ n = ap (λ (k : ℕ). k - suc m) (two_halves w) ∙ b.1 in
    (ap (cast_signed w) (sym is) ∙ to_z-of_z w (negsuc m) (record { sfits = lt }), omega (arith, lt, b.1, whole))

mapped : {A B : Type 0} (f : A → B) (o : Option A) (y : B) → option_map f o ≡ Some y → (x : A) × (o ≡ Some x) × (f x ≡ y)
mapped f None y e = absurd cc
mapped f (Some x) y e = (x, refl, same_Some (f x) y e)

-- a number under its form
narrow-again : (w : Width) (width : ℕ) → 2 * 2 ^ hbits w ≡ 256 ^ width → (u : Bool) (z : ℤ) (bytes : List ℕ)
    → option_map (le_bytes width) (number_bits (2 ^ hbits w) u z) ≡ Some bytes → IsSpelling (short_integer w width u) (Int z) bytes
narrow-again w width whole u z bytes e =
    let m = mapped (le_bytes width) (number_bits (2 ^ hbits w) u z) bytes e in
    let b = bits_read w width whole u z m.0 m.1 in
    subst (IsSpelling (short_integer w width u) (Int z)) m.2 (λ rest. (m.0, ap Int b.0, number-again width m.0 b.1 rest))

-- ---- other values

wide_is : (k : ValueKind) (u : Bool) (value : Content) (bytes : List ℕ) → wide_value k u value ≡ Some bytes → (spells_wide k u value ≡ true) × (bin value ≡ bytes)
wide_is k u value bytes e = cond_some (spells_wide k u value) (bin value) bytes e

not_true : (a b : Bool) → (not (a && b)) ≡ true → a ≡ true → b ≡ false
not_true true true e h = absurd cc
not_true true false e h = refl
not_true false b e h = absurd cc

longlong_int : (type : ColumnType) (u : Bool) (z : ℤ) → kind_of type ≡ kind.LongLong → not (u && is_negative z) ≡ true → FitsSigned w64 z → IsSpelling (bin_value type u) (number_read kind.LongLong u z) (bin (Int z))
longlong_int type true (pos n) is h fits = λ rest. value-again type true (UInt n) rest (is, refl, omega (arith, fits.sfits))
longlong_int type true (negsuc n) is h fits = absurd cc
longlong_int type false z is h fits = λ rest. value-again type false (Int z) rest (is, refl, fits)

longlong_uint : (type : ColumnType) (u : Bool) (n : ℕ) → kind_of type ≡ kind.LongLong → (u || nat_lt n (2 ^ 63)) ≡ true → n < 2 ^ 64 → IsSpelling (bin_value type u) (number_read kind.LongLong u (pos n)) (bin (UInt n))
longlong_uint type true n is h fits = λ rest. value-again type true (UInt n) rest (is, refl, fits)
longlong_uint type false n is h fits = λ rest. value-again type false (Int (pos n)) rest (is, refl, record { sfits = ltb-true n (2 ^ 63) h })

-- ---- integers

int-again : (type : ColumnType) (u : Bool) (k : ValueKind) (z : ℤ) (bytes : List ℕ) → kind_of type ≡ k → FitsSigned w64 z → some_spelled k u (Int z) ≡ Some bytes → IsSpelling (bin_value type u) (number_read k u z) bytes
int-again type u kind.Tiny z bytes is fits e = rw is (narrow-again w8 1 refl u z bytes e)
int-again type u kind.Short z bytes is fits e = rw is (narrow-again w16 2 refl u z bytes e)
int-again type u kind.Long z bytes is fits e = rw is (narrow-again w32 4 refl u z bytes e)
int-again type u kind.LongLong z bytes is fits e =
    let w = wide_is kind.LongLong u (Int z) bytes e in
    subst (IsSpelling (bin_value type u) (number_read kind.LongLong u z)) w.1 (longlong_int type u z is w.0 fits)
int-again type u _ z bytes is fits e = absurd cc

uint-again : (type : ColumnType) (u : Bool) (k : ValueKind) (n : ℕ) (bytes : List ℕ) → kind_of type ≡ k → n < 2 ^ 64 → some_spelled k u (UInt n) ≡ Some bytes → IsSpelling (bin_value type u) (number_read k u (pos n)) bytes
uint-again type u kind.Tiny n bytes is fits e = rw is (narrow-again w8 1 refl u (pos n) bytes e)
uint-again type u kind.Short n bytes is fits e = rw is (narrow-again w16 2 refl u (pos n) bytes e)
uint-again type u kind.Long n bytes is fits e = rw is (narrow-again w32 4 refl u (pos n) bytes e)
uint-again type u kind.LongLong n bytes is fits e =
    let w = wide_is kind.LongLong u (UInt n) bytes e in
    subst (IsSpelling (bin_value type u) (number_read kind.LongLong u (pos n))) w.1 (longlong_uint type u n is w.0 fits)
uint-again type u _ n bytes is fits e = absurd cc

-- ---- values other than integers

module _ (value : Content) (none : (half : ℕ) (u : Bool) → content_bits half u value ≡ None) (wide : (k : ValueKind) (u : Bool) → spells_wide k u value ≡ matches_type k value) where
  no_bytes : (width half : ℕ) (u : Bool) (bytes : List ℕ) → option_map (le_bytes width) (content_bits half u value) ≡ Some bytes → ⊥
  no_bytes width half u bytes e = let same : option_map (le_bytes width) None ≡ Some bytes = rw none at e in cc

  kind_suits : (k : ValueKind) (u : Bool) (bytes : List ℕ) → some_spelled k u value ≡ Some bytes → (matches_type k value ≡ true) × (bin value ≡ bytes)
  kind_suits kind.Tiny u bytes e = absurd (no_bytes 1 (2 ^ 7) u bytes e)
  kind_suits kind.Short u bytes e = absurd (no_bytes 2 (2 ^ 15) u bytes e)
  kind_suits kind.Long u bytes e = absurd (no_bytes 4 (2 ^ 31) u bytes e)
  kind_suits k u bytes e = let w = wide_is k u value bytes e in (sym (wide k u) ∙ w.0, w.1)

  -- a type of the value's kind reads it
  other-again : (t : ParamType) → (matches_type (kind_of t.column_type) value ≡ true → IsSpelling (bin_value t.column_type (is_unsigned_type t)) value (bin value))
      → (bytes : List ℕ) → some_spelled (kind_of t.column_type) (is_unsigned_type t) value ≡ Some bytes → IsSpelling (bin_value t.column_type (is_unsigned_type t)) value bytes
  other-again t again bytes e =
      let h = kind_suits (kind_of t.column_type) (is_unsigned_type t) bytes e in
      subst (IsSpelling (bin_value t.column_type (is_unsigned_type t)) value) h.1 (again h.0)

-- ---- all values

pub under-again : (t : ParamType) (value : Content) (bytes : List ℕ) → IsInRange value → spelled t value ≡ Some bytes → ReadsUnder t value bytes
under-again t NULL bytes fits e = sym (same_Some [] bytes e)
under-again t (Int z) bytes fits e = int-again t.column_type (is_unsigned_type t) (kind_of t.column_type) z bytes refl fits e
under-again t (UInt n) bytes fits e = uint-again t.column_type (is_unsigned_type t) (kind_of t.column_type) n bytes refl fits e
under-again t (Bytes x) bytes fits e = other-again (Bytes x) (λ half u. refl) (λ k u. refl) t (λ h. agrees-by_kind t.column_type (is_unsigned_type t) (Bytes x) h fits) bytes e
under-again t (Float x) bytes fits e = other-again (Float x) (λ half u. refl) (λ k u. refl) t (λ h. agrees-by_kind t.column_type (is_unsigned_type t) (Float x) h fits) bytes e
under-again t (Double x) bytes fits e = other-again (Double x) (λ half u. refl) (λ k u. refl) t (λ h. agrees-by_kind t.column_type (is_unsigned_type t) (Double x) h fits) bytes e
under-again t (Date x) bytes fits e = other-again (Date x) (λ half u. refl) (λ k u. refl) t (λ h. agrees-by_kind t.column_type (is_unsigned_type t) (Date x) h fits) bytes e
under-again t (Time x) bytes fits e = other-again (Time x) (λ half u. refl) (λ k u. refl) t (λ h. agrees-by_kind t.column_type (is_unsigned_type t) (Time x) h fits) bytes e
