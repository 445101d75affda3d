-- What contents are converted to, borrowed or not.
use Rattle.std.specs.Prelude.{◌≡◌, ℕ, ℤ, pos, ◌<◌, ◌^◌, List, Option, Some, None, IsUtf8}
use Rattle.mysql_values.specs.Value.{Content, NULL, Bytes, Int, UInt}
use Rattle.mysql_values.specs.Numeral.{WritesSigned, WritesUnsigned}

-- a number in range, or bytes that write one
abbrev pub ContentAsI64 : Content → ℤ → Type 0
ContentAsI64 (Int x) y = x ≡ y
ContentAsI64 (UInt n) y = (y ≡ pos n) × (n < 2 ^ 63)
ContentAsI64 (Bytes bytes) y = WritesSigned bytes y
ContentAsI64 _ y = ⊥

abbrev pub ContentAsU64 : Content → ℕ → Type 0
ContentAsU64 (UInt m) n = m ≡ n
ContentAsU64 (Int x) n = x ≡ pos n
ContentAsU64 (Bytes bytes) n = WritesUnsigned bytes n
ContentAsU64 _ n = ⊥

-- the same bytes
abbrev pub ContentAsBytes : Content → List ℕ → Type 0
ContentAsBytes (Bytes bytes) v = v ≡ bytes
ContentAsBytes _ v = ⊥

-- the same bytes, if they are UTF-8
abbrev pub ContentAsText : Content → List ℕ → Type 0
ContentAsText (Bytes bytes) text = (text ≡ bytes) × IsUtf8 bytes
ContentAsText _ text = ⊥

-- None for NULL, otherwise the converted content
abbrev pub ContentAsOption : {X : Type 0} → (Content → X → Type 0) → Content → Option X → Type 0
ContentAsOption P NULL None = Unit {0}
ContentAsOption P NULL (Some x) = ⊥
ContentAsOption P content None = ⊥
ContentAsOption P content (Some x) = P content x
