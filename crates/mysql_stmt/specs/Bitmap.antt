-- NULL bitmaps, and their cells.
use Rattle.std.specs.Prelude.{ℕ, ◌+◌, ◌/◌, List, Bool, true, false}
use Rattle.std.specs.Int.{bit_at}
use Rattle.std.specs.declared.borrow.CowSlice.{CowSlice}
use Rattle.std.specs.declared.borrow.CowSlice.TheVariants as slice
use Rattle.mysql_wire.specs.Form.{le_value}

-- a bitmap: its bytes, and whether it owns them
pub record Bitmap : Type 0 where
  pub bytes : List ℕ
  pub owned : Bool

abbrev pub is_owned : {Z : Type 0} → CowSlice ℕ Z → Bool
is_owned (slice.Borrowed r) = false
is_owned (slice.Owned v) = true

-- the binary digit at a place of the number that these bytes are, little-endian
abbrev pub cell : List ℕ → ℕ → ℕ
cell bytes place = bit_at (le_value bytes) place

-- the number of bytes for a given number of bits after the unused first ones
abbrev pub bytes_for : ℕ → ℕ → ℕ
bytes_for offset count = (count + 7 + offset) / 8
