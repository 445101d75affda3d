-- What values are converted to.
use Rattle.std.specs.Prelude.{◌≡◌, ℕ, ℤ, pos, ◌<◌, ◌^◌, Option, Some, None, String, IsUtf8}
use Rattle.std.specs.Global.{Vec, Global}
use Rattle.std.specs.String.{string_vec}
use Rattle.mysql_values.specs.declared.value.Value.{Value}
use Rattle.mysql_values.specs.declared.value.Value.TheVariants.{NULL, Bytes, Int, UInt}
use Rattle.mysql_values.specs.Numeral.{WritesSigned, WritesUnsigned}

-- a number in range, or bytes that write one
abbrev pub AsI64 : Value → ℤ → Type 0
AsI64 (Int x) y = x ≡ y
AsI64 (UInt n) y = (y ≡ pos n) × (n < 2 ^ 63)
AsI64 (Bytes bytes) y = WritesSigned bytes.items y
AsI64 _ y = ⊥

abbrev pub AsU64 : Value → ℕ → Type 0
AsU64 (UInt m) n = m ≡ n
AsU64 (Int x) n = x ≡ pos n
AsU64 (Bytes bytes) n = WritesUnsigned bytes.items n
AsU64 _ n = ⊥

-- the same bytes
abbrev pub AsBytes : Value → Vec ℕ → Type 0
AsBytes (Bytes bytes) v = bytes ≡ v
AsBytes _ v = ⊥

-- the same bytes, if they are UTF-8
abbrev pub AsText : Value → String Global → Type 0
AsText (Bytes bytes) text = (string_vec text ≡ bytes) × IsUtf8 bytes.items
AsText _ text = ⊥

-- None for NULL, otherwise the converted value
abbrev pub AsOption : {X : Type 0} → (Value → X → Type 0) → Value → Option X → Type 0
AsOption P NULL None = Unit {0}
AsOption P NULL (Some x) = ⊥
AsOption P v None = ⊥
AsOption P v (Some x) = P v x
