-- Integers on the wire.
use Rattle.std.specs.Prelude.{◌≡◌, ℕ, Option}
use Rattle.mysql_wire.specs.declared.int.RawInt.{RawInt}
use Rattle.mysql_wire.specs.declared.little_endian.LeU16.{LeU16}
use Rattle.mysql_wire.specs.declared.little_endian.LeU24.{LeU24}
use Rattle.mysql_wire.specs.declared.little_endian.LeU32.{LeU32}
use Rattle.mysql_wire.specs.declared.little_endian.LeU64.{LeU64}
use Rattle.mysql_wire.specs.Form.{Form, map, number}

-- a number in its wire form
abbrev pub raw_int : {R P : Type 0} → P → RawInt R P
raw_int n = record { 0 = n; 1 = record {} }

unfoldable pub raw : {R P : Type 0} → Form P → Form (RawInt R P)
raw form = map raw_int form

pub size-raw : {P : Type 0} (R : Type 0) (form : Form P) (size : Option ℕ) → form.size ≡ size → (raw {R = R} form).size ≡ size
unfolding raw
size-raw R form size e = e

-- the number
abbrev pub number_of : {R : Type 0} → Form (RawInt R ℕ) → Form ℕ
number_of form = map (λ n. n.0) form

-- one, two, three, four and eight bytes, little-endian
abbrev pub byte : Form (RawInt ℕ ℕ)
byte = raw (number 1)

abbrev pub le_u16 : Form (RawInt LeU16 ℕ)
le_u16 = raw (number 2)

abbrev pub le_u32 : Form (RawInt LeU32 ℕ)
le_u32 = raw (number 4)

abbrev pub le_u24 : Form (RawInt LeU24 ℕ)
le_u24 = raw (number 3)

abbrev pub le_u64 : Form (RawInt LeU64 ℕ)
le_u64 = raw (number 8)
