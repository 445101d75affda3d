-- Conversions that depend only on a value's content.
use Rattle.std.specs.Prelude.{◌≡◌, ℕ, ℤ, List, Some, None, IsUtf8, refl}
use Rattle.std.specs.Global.{Vec}
use Rattle.std.proofs.Common.{sym}
use Rattle.mysql_values.specs.declared.value.Value.{Value}
use Rattle.mysql_values.specs.declared.value.Value.TheVariants as value
use Rattle.mysql_values.specs.Value.{NULL, Bytes, Int, UInt, content_of}
use Rattle.mysql_values.specs.FromValue.{AsI64, AsU64, AsBytes, AsText, AsOption}

-- this value is converted to some value of the type
abbrev pub IsConvertible : {X : Type 0} → (Value → X → Type 0) → Value → Type 0
IsConvertible {X} Converts v = (x : X) × Converts v x

-- of two values with the same content, both can be converted or neither
abbrev pub GoesByContent : {X : Type 0} → (Value → X → Type 0) → Type 0
GoesByContent Converts = (a b : Value) → content_of a ≡ content_of b → IsConvertible Converts a → IsConvertible Converts b

-- ---- the value with a given content

-- a value of these bytes
pub record IsOfBytes (v : Value) (content : List ℕ) : Type 0 where
  pub bytes : Vec ℕ
  pub is : v ≡ value.Bytes bytes
  pub items : bytes.items ≡ content

pub null_in : (v : Value) → content_of v ≡ NULL → v ≡ value.NULL
null_in value.NULL e = refl
null_in _ e = absurd cc

pub bytes_in : (v : Value) (content : List ℕ) → content_of v ≡ Bytes content → IsOfBytes v content
bytes_in (value.Bytes bytes) content e = record { bytes = bytes; is = refl; items = cc }
bytes_in _ content e = absurd cc

pub int_in : (v : Value) (n : ℤ) → content_of v ≡ Int n → v ≡ value.Int n
int_in (value.Int m) n e = cc
int_in _ n e = absurd cc

pub uint_in : (v : Value) (n : ℕ) → content_of v ≡ UInt n → v ≡ value.UInt n
uint_in (value.UInt m) n e = cc
uint_in _ n e = absurd cc

-- ---- the conversions here

pub value_by_content : GoesByContent (λ (v converted : Value). v ≡ converted)
value_by_content a b e h = (b, refl)

pub i64_by_content : GoesByContent AsI64
i64_by_content (value.Int n) b e h = (h.0, rw (int_in b n (sym e)) h.1)
i64_by_content (value.UInt n) b e h = (h.0, rw (uint_in b n (sym e)) h.1)
i64_by_content (value.Bytes bytes) b e h =
    let of = bytes_in b bytes.items (sym e) in
    (h.0, rw (of.is, of.items) h.1)
i64_by_content _ b e h = absurd h.1

pub u64_by_content : GoesByContent AsU64
u64_by_content (value.Int n) b e h = (h.0, rw (int_in b n (sym e)) h.1)
u64_by_content (value.UInt n) b e h = (h.0, rw (uint_in b n (sym e)) h.1)
u64_by_content (value.Bytes bytes) b e h =
    let of = bytes_in b bytes.items (sym e) in
    (h.0, rw (of.is, of.items) h.1)
u64_by_content _ b e h = absurd h.1

bytes_of : (v : Value) (bytes : Vec ℕ) → v ≡ value.Bytes bytes → IsConvertible AsBytes v
bytes_of v bytes is = (bytes, rw is refl)

pub bytes_by_content : GoesByContent AsBytes
bytes_by_content (value.Bytes bytes) b e h = let of = bytes_in b bytes.items (sym e) in bytes_of b of.bytes of.is
bytes_by_content _ b e h = absurd h.1

text_of : (v : Value) (bytes : Vec ℕ) → v ≡ value.Bytes bytes → IsUtf8 bytes.items → IsConvertible AsText v
text_of v bytes is utf8 = (record { bytes = bytes; ok = ∣ utf8 ∣₁ }, rw is (refl, utf8))

pub text_by_content : GoesByContent AsText
text_by_content (value.Bytes bytes) b e h =
    let of = bytes_in b bytes.items (sym e) in
    text_of b of.bytes of.is (rw of.items h.1.1)
text_by_content _ b e h = absurd h.1

module _ {X : Type 0} (Converts : Value → X → Type 0) (by_content : GoesByContent Converts) where
  some_of : (v : Value) → (v ≡ value.NULL → ⊥) → (x : X) → Converts v x → AsOption Converts v (Some x)
  some_of value.NULL other x h = absurd (other refl)
  some_of _ other x h = h

  pub option_by_content : GoesByContent (AsOption Converts)
  option_by_content value.NULL b e h = (None, rw (null_in b (sym e)) tt)
  option_by_content _ b e (None, h) = absurd h
  option_by_content a b e (Some x, h) = let of : IsConvertible Converts b = by_content a b e (x, h) in (Some of.0, some_of b (λ n. let c : content_of a ≡ NULL = rw n at e in cc) of.0 of.1)
