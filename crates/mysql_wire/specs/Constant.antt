-- Fields with a constant value.
use Rattle.std.specs.Prelude.{◌≡◌, ℕ, Option, Some, None, ◌==◌, refl, if◌then◌else◌}
use Rattle.mysql_wire.specs.Form.{Form, bytes, number, decode}
use Rattle.mysql_wire.specs.Int.{raw, le_u32}
use Rattle.mysql_wire.specs.declared.constant.ConstU8.{ConstU8}
use Rattle.mysql_wire.specs.declared.constant.ConstU32.{ConstU32}

-- the constant, with its only value
abbrev pub const_u8 : {T : Type 0} (value : ℕ) → ℕ → Option (ConstU8 T value)
const_u8 value n = if n == value then Some (record { 0 = record {} }) else None

-- a constant byte
unfoldable pub const_byte : {T : Type 0} (value : ℕ) → Form (ConstU8 T value)
const_byte value = decode (const_u8 value) (number 1)

pub size-const_byte : (T : Type 0) (value : ℕ) → (const_byte {T = T} value).size ≡ Some 1
unfolding const_byte number bytes
size-const_byte T value = refl

abbrev pub const_u32 : {T : Type 0} (value : ℕ) → ℕ → Option (ConstU32 T value)
const_u32 value n = if n == value then Some (record { 0 = record {} }) else None

-- a constant number of four bytes
unfoldable pub const_le_u32 : {T : Type 0} (value : ℕ) → Form (ConstU32 T value)
const_le_u32 value = decode (λ n. const_u32 value n.0) le_u32

pub size-const_le_u32 : (T : Type 0) (value : ℕ) → (const_le_u32 {T = T} value).size ≡ Some 4
unfolding const_le_u32 raw number bytes
size-const_le_u32 T value = refl
