-- Writing binary rows from their values.
use Rattle.std.specs.Prelude.{◌≡◌, ◌≢◌, ℕ, ℤ, pos, negsuc, ◌+◌, ◌^◌, Bool, true, false, not, ◌&&◌, nat_lt, IsTrue, IsFalse, List, [], ◌∷◌, ◌++◌, length, take, slice_get, Some}
use Rattle.std.specs.Int.{w64, cast_unsigned}
use Rattle.mysql_wire.specs.declared.codes.column_type.ColumnType.{ColumnType}
use Rattle.mysql_wire.specs.Writing.{le_bytes}
use Rattle.mysql_values.specs.ParamValue.{Plain, WithOffset}
use Rattle.mysql_values.specs.Value.{Content, Int, UInt, bin}
use Rattle.mysql_values.specs.declared.value_kind.ValueKind.{ValueKind}
use Rattle.mysql_values.specs.declared.value_kind.ValueKind.TheVariants as kind
use Rattle.mysql_values.specs.ValueKind.{kind_of, is_longlong, matches_type}
use Rattle.mysql_stmt.specs.Bitmap.{bytes_for}
use Rattle.mysql_stmt.specs.ExecuteParam.{Param, Sent, SentAhead, AsSent, value_of}
use Rattle.mysql_stmt.specs.NullMarks.{MarksNulls}
use Rattle.mysql_stmt.specs.declared.binary_row.BinaryRowError.{BinaryRowError}
use Rattle.mysql_stmt.specs.declared.binary_row.BinaryRowError.TheVariants as error

-- ---- which values a column takes

-- an integer from -half to half - 1, or an unsigned one below twice the half
abbrev pub has_width : (is_unsigned : Bool) (half : ℕ) → ℤ → Bool
has_width true half (pos n) = nat_lt n (half + half)
has_width true half (negsuc n) = false
has_width false half (pos n) = nat_lt n half
has_width false half (negsuc n) = nat_lt n half

abbrev pub takes_integer : ValueKind → (is_unsigned : Bool) → ℤ → Bool
takes_integer kind.Tiny u n = has_width u (2 ^ 7) n
takes_integer kind.Short u n = has_width u (2 ^ 15) n
takes_integer kind.Long u n = has_width u (2 ^ 31) n
takes_integer kind.LongLong u n = not u
takes_integer _ u n = false

-- the value is one that reading a column of this type can return; a DATE has no time of day
abbrev pub takes : ColumnType → (is_unsigned : Bool) → Content → Bool
takes t u (Int n) = takes_integer (kind_of t) u n
takes t u (UInt n) = is_longlong (kind_of t) && u
takes t u value = matches_type (kind_of t) value

-- the same for what is also a parameter: a row has no form for a UTC offset, nor for the raw bytes of an execution
abbrev pub takes_param : ColumnType → (is_unsigned : Bool) → Param → Bool
takes_param t u (Sent (Plain value)) = takes t u value
takes_param t u (Sent (WithOffset date)) = false
takes_param t u SentAhead = takes t u (value_of SentAhead)
takes_param t u (AsSent has_null_bit bytes) = false

-- ---- bytes

-- the size of an integer of this kind
abbrev pub integer_size : ValueKind → ℕ
integer_size kind.Tiny = 1
integer_size kind.Short = 2
integer_size kind.Long = 4
integer_size kind.LongLong = 8
integer_size _ = 0

-- a value in a column of this type: the low bytes of an integer, otherwise its binary form
abbrev pub bin_in : ColumnType → Content → List ℕ
bin_in t (Int n) = le_bytes (integer_size (kind_of t)) (cast_unsigned w64 n)
bin_in t value = bin value

module _ {C : Type 0} (type_of : C → ColumnType) (unsigned : C → Bool) where
  -- there is a value for each column, which can contain it
  abbrev pub takes_row : List C → List Content → Bool
  takes_row [] [] = true
  takes_row [] (v ∷ vs) = false
  takes_row (c ∷ cs) [] = false
  takes_row (c ∷ cs) (v ∷ vs) = takes (type_of c) (unsigned c) v && takes_row cs vs

  abbrev pub values_bytes : List C → List Content → List ℕ
  values_bytes [] values = []
  values_bytes (c ∷ cs) [] = []
  values_bytes (c ∷ cs) (v ∷ vs) = bin_in (type_of c) v ++ values_bytes cs vs

  -- the size of the row
  abbrev pub row_len : List C → List Content → ℕ
  row_len columns values = 1 + bytes_for 2 (length values) + length (values_bytes columns values)

  -- a zero byte, the NULL bitmap, and the values
  abbrev pub IsRowBytes : List C → List Content → List ℕ → Type 0
  IsRowBytes columns values bytes = (nulls : List ℕ) × MarksNulls 2 values nulls × (bytes ≡ 0 ∷ nulls ++ values_bytes columns values)

  -- the buffer ends with the row
  abbrev pub AppendsRow : List C → List Content → (old new : List ℕ) → Type 0
  AppendsRow columns values old new = (bytes : List ℕ) × IsRowBytes columns values bytes × (new ≡ old ++ bytes)

-- ---- errors

module _ {C V : Type 0} (type_of : C → ColumnType) (unsigned : C → Bool) (param : V → Param) where
  -- there is a value for each column, which can contain it
  abbrev pub takes_values : List C → List V → Bool
  takes_values [] [] = true
  takes_values [] (v ∷ vs) = false
  takes_values (c ∷ cs) [] = false
  takes_values (c ∷ cs) (v ∷ vs) = takes_param (type_of c) (unsigned c) (param v) && takes_values cs vs

  -- the column at this place can't contain its value
  abbrev pub IsRefusedAt : List C → List V → ℕ → Type 0
  IsRefusedAt columns values place = (c : C) × (v : V) × (slice_get columns place ≡ Some c) × (slice_get values place ≡ Some v) × IsFalse (takes_param (type_of c) (unsigned c) (param v))

  -- it is the first such place
  pub record IsFirstRefused (columns : List C) (values : List V) (place : ℕ) : Type 0 where
    pub refused : IsRefusedAt columns values place
    pub before : IsTrue (takes_values (take place columns) (take place values))

  abbrev pub RefusesRow : List C → List V → BinaryRowError → Type 0
  RefusesRow columns values error.Count = length columns ≢ length values
  RefusesRow columns values (error.Value place) = (length columns ≡ length values) × IsFirstRefused columns values place
  RefusesRow columns values error.Memory = IsTrue (takes_values columns values)
