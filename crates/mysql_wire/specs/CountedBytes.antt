-- Byte strings after a length of fixed width.
use Rattle.std.specs.Prelude.{◌≡◌, ◌++◌, ℕ, List, None, length, take, refl}
use Rattle.mysql_wire.specs.Writing.{le_bytes}
use Rattle.mysql_wire.specs.Form.{Form, ◌>>=◌, bytes}
use Rattle.mysql_wire.specs.Int.{byte, le_u32, number_of}
use Rattle.mysql_wire.specs.declared.int.RawInt.{RawInt}

-- the length in its form, and that many bytes
unfoldable pub counted_bytes : {R : Type 0} → Form (RawInt R ℕ) → Form (List ℕ)
counted_bytes count = do
  n ← number_of count
  bytes n

pub size-counted_bytes : {R : Type 0} (count : Form (RawInt R ℕ)) → (counted_bytes count).size ≡ None
unfolding counted_bytes
size-counted_bytes count = refl

-- at most this many of the first bytes, after their length
unfoldable pub counted_bytes_of : (width most : ℕ) → List ℕ → List ℕ
counted_bytes_of width most content = le_bytes width (length (take most content)) ++ take most content

-- a length of one byte, and that many bytes
abbrev pub u8_string : Form (List ℕ)
u8_string = counted_bytes byte

-- the first 255 bytes of a content, after their length
abbrev pub u8_string_bytes : List ℕ → List ℕ
u8_string_bytes = counted_bytes_of 1 255

-- a length of four bytes, and that many bytes
abbrev pub u32_string : Form (List ℕ)
u32_string = counted_bytes le_u32

-- the first 2^32 - 1 bytes of a content, after their length
abbrev pub u32_string_bytes : List ℕ → List ℕ
u32_string_bytes = counted_bytes_of 4 4294967295
