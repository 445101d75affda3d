-- Byte strings with a constant value.
use Rattle.std.specs.Prelude.{◌≡◌, ℕ, List, Option, Some, None, nat_eq, if◌then◌else◌, refl}
use Rattle.std.specs.Cmp.Lexicographic.{pointwise}
use Rattle.mysql_wire.specs.Form.{Form, bytes, decode}
use Rattle.mysql_wire.specs.declared.const_bytes.ConstBytes.{ConstBytes}

-- the constant, with its only value
abbrev pub const_value : {T : Type 0} (len : ℕ) → List ℕ → List ℕ → Option (ConstBytes T len)
const_value len value content = if pointwise nat_eq content value then Some (record { 0 = record {} }) else None

-- constant bytes of a given length
unfoldable pub const_bytes : {T : Type 0} (len : ℕ) → List ℕ → Form (ConstBytes T len)
const_bytes len value = decode (const_value len value) (bytes len)

pub size-const_bytes : (T : Type 0) (len : ℕ) (value : List ℕ) → (const_bytes {T = T} len value).size ≡ Some len
unfolding const_bytes bytes
size-const_bytes T len value = refl
