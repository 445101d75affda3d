-- Values under the type of a parameter or a column, of any width.
use Rattle.std.specs.Prelude.{◌≡◌, ℕ, ℤ, pos, negsuc, suc, ◌*◌, ◌-◌, ◌^◌, Bool, true, not, ◌&&◌, ◌||◌, nat_lt, List, [], Option, Some, None, if◌then◌else◌}
use Rattle.std.specs.Int.{is_negative}
use Rattle.std.specs.Option.{option_map}
use Rattle.mysql_wire.specs.FlagMasks.{UNSIGNED}
use Rattle.mysql_wire.specs.Flags.{has}
use Rattle.mysql_wire.specs.Spelling.{IsSpelling}
use Rattle.mysql_wire.specs.Writing.{le_bytes}
use Rattle.mysql_values.specs.declared.param_type.ParamType.{ParamType}
use Rattle.mysql_values.specs.declared.typed_value.TypedValue.{TypedValue}
use Rattle.mysql_values.specs.declared.typed_value.TypedValue.TheVariants as typed
use Rattle.mysql_values.specs.declared.value_kind.ValueKind.{ValueKind}
use Rattle.mysql_values.specs.declared.value_ref.ValueRef.{ValueRef}
use Rattle.mysql_values.specs.declared.value_ref.ValueRef.TheVariants as value_ref
use Rattle.mysql_values.specs.declared.value_kind.ValueKind.TheVariants as kind
use Rattle.mysql_values.specs.DateTimeWithOffset.{date_with_offset}
use Rattle.mysql_values.specs.Value.{Content, NULL, Int, UInt, bin}
use Rattle.mysql_values.specs.ValueDeserializer.{bin_value}
use Rattle.mysql_values.specs.ValueKind.{kind_of, is_longlong, matches_type}
use Rattle.mysql_values.specs.ValueRef.{ref_content}

abbrev pub is_unsigned_type : ParamType → Bool
is_unsigned_type t = has t.flags.0 UNSIGNED

-- ---- bytes

-- a number in two's complement, if the type contains it: for a signed type, `half` is how many of its numbers are below 0
abbrev pub number_bits : (half : ℕ) → (is_unsigned : Bool) → ℤ → Option ℕ
number_bits half u (pos n) = if nat_lt n (if u then 2 * half else half) then Some n else None
number_bits half u (negsuc n) = if not u && nat_lt n half then Some (2 * half - suc n) else None

-- the bits of a value; none if it is no number
abbrev pub content_bits : (half : ℕ) → (is_unsigned : Bool) → Content → Option ℕ
content_bits half u (Int z) = number_bits half u z
content_bits half u (UInt n) = number_bits half u (pos n)
content_bits half u value = None

-- a value of eight bytes or of variable width under a kind: its binary form, if the kind can encode it
abbrev pub spells_wide : ValueKind → (is_unsigned : Bool) → Content → Bool
spells_wide k u (Int z) = is_longlong k && not (u && is_negative z)
spells_wide k u (UInt n) = is_longlong k && (u || nat_lt n (2 ^ 63))
spells_wide k u value = matches_type k value

abbrev pub wide_value : ValueKind → (is_unsigned : Bool) → Content → Option (List ℕ)
wide_value k u value = if spells_wide k u value then Some (bin value) else None

abbrev pub wide_typed : ValueKind → (is_unsigned : Bool) → ValueRef → Option TypedValue
wide_typed k u value = if spells_wide k u (ref_content value) then Some (typed.Wide value) else None

-- a value other than NULL under a kind: for an integer as many low bytes of its bits as the kind has
abbrev pub some_spelled : ValueKind → (is_unsigned : Bool) → Content → Option (List ℕ)
some_spelled kind.Tiny u value = option_map (le_bytes 1) (content_bits (2 ^ 7) u value)
some_spelled kind.Short u value = option_map (le_bytes 2) (content_bits (2 ^ 15) u value)
some_spelled kind.Long u value = option_map (le_bytes 4) (content_bits (2 ^ 31) u value)
some_spelled k u value = wide_value k u value

-- NULL has no bytes under any kind
abbrev pub kind_spelled : ValueKind → (is_unsigned : Bool) → Content → Option (List ℕ)
kind_spelled k u NULL = Some []
kind_spelled k u value = some_spelled k u value

-- the bytes of a value under a type; none if the type can't encode the value
abbrev pub spelled : ParamType → Content → Option (List ℕ)
spelled t value = kind_spelled (kind_of t.column_type) (is_unsigned_type t) value

-- the variant that contains a value under a kind, if the kind can encode it: for a number its bits in the kind's width
abbrev pub some_typed : ValueKind → (is_unsigned : Bool) → ValueRef → Option TypedValue
some_typed kind.Tiny u value = option_map typed.Tiny (content_bits (2 ^ 7) u (ref_content value))
some_typed kind.Short u value = option_map typed.Short (content_bits (2 ^ 15) u (ref_content value))
some_typed kind.Long u value = option_map typed.Long (content_bits (2 ^ 31) u (ref_content value))
some_typed k u value = wide_typed k u value

abbrev pub kind_typed : ValueKind → (is_unsigned : Bool) → ValueRef → Option TypedValue
kind_typed k u value_ref.NULL = Some (typed.Wide value_ref.NULL)
kind_typed k u value = some_typed k u value

-- the value under a type
abbrev pub typed_under : ParamType → ValueRef → Option TypedValue
typed_under t value = kind_typed (kind_of t.column_type) (is_unsigned_type t) value

-- the form of a value
abbrev pub typed_bytes : TypedValue → List ℕ
typed_bytes (typed.Tiny bits) = le_bytes 1 bits
typed_bytes (typed.Short bits) = le_bytes 2 bits
typed_bytes (typed.Long bits) = le_bytes 4 bits
typed_bytes (typed.Wide value) = bin (ref_content value)
typed_bytes (typed.WithOffset date) = date_with_offset.bytes date

-- ---- how they are read

-- a number, as values of the kind are read
abbrev pub number_read : ValueKind → (is_unsigned : Bool) → ℤ → Content
number_read kind.LongLong true (pos n) = UInt n
number_read k u z = Int z

abbrev pub kind_read : ValueKind → (is_unsigned : Bool) → Content → Content
kind_read k u (Int z) = number_read k u z
kind_read k u (UInt n) = number_read k u (pos n)
kind_read k u value = value

-- a value, as it is read under a type: a number is signed, except under an unsigned type of eight bytes
abbrev pub read_under : ParamType → Content → Content
read_under t value = kind_read (kind_of t.column_type) (is_unsigned_type t) value

-- the bytes are read as the value under its type, whatever follows; NULL is not read
abbrev pub ReadsUnder : ParamType → Content → List ℕ → Type 0
ReadsUnder t NULL bytes = bytes ≡ []
ReadsUnder t value bytes = IsSpelling (bin_value t.column_type (is_unsigned_type t)) (read_under t value) bytes
