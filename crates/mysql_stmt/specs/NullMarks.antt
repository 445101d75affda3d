-- The bits of a NULL bitmap.
use Rattle.std.specs.Prelude.{◌≡◌, ℕ, zero, suc, ◌+◌, ◌*◌, Bool, true, false, if◌then◌else◌, List, [], ◌∷◌, ◌++◌, length, map, drop, get_or, replicate}
use Rattle.mysql_values.specs.Value.{Content, NULL}
use Rattle.mysql_stmt.specs.Bitmap.{bytes_for, cell}

abbrev pub is_null : Content → Bool
is_null NULL = true
is_null value = false

-- 1 for NULL, otherwise 0
abbrev pub null_bit : Content → ℕ
null_bit value = if is_null value then 1 else 0

-- the bits of a bitmap: the unused first ones, and one for each value
abbrev pub null_bits : (offset : ℕ) → List Content → List ℕ
null_bits offset values = replicate offset 0 ++ map null_bit values

-- the bitmap of these values: the bytes of these bits, in which exactly those of NULLs are set
pub record MarksNulls (offset : ℕ) (values : List Content) (bitmap : List ℕ) : Type 0 where
  pub len : length bitmap ≡ bytes_for offset (length values)
  pub cells : (i : ℕ) → cell bitmap i ≡ get_or (null_bits offset values) i 0

-- the buffer ends with that bitmap
abbrev pub AppendsNulls : (offset : ℕ) → List Content → (old new : List ℕ) → Type 0
AppendsNulls offset values old new = (nulls : List ℕ) × MarksNulls offset values nulls × (new ≡ old ++ nulls)

-- ---- the same bitmap as a list of bytes

-- the number of the first four bits, least significant first
abbrev pub first_four : List ℕ → ℕ
first_four bits = get_or bits 0 0 + 2 * get_or bits 1 0 + 4 * get_or bits 2 0 + 8 * get_or bits 3 0

-- the byte of the first eight bits
abbrev pub first_eight : List ℕ → ℕ
first_eight bits = first_four bits + 16 * first_four (drop 4 bits)

-- a given number of bytes of bits
abbrev pub packed : ℕ → List ℕ → List ℕ
packed zero bits = []
packed (suc n) bits = first_eight bits ∷ packed n (drop 8 bits)

-- the bitmap of these values as a client sends it: a bit for each, least significant first, set for NULL
abbrev pub bitmap_of : List Content → List ℕ
bitmap_of values = packed (bytes_for 0 (length values)) (map null_bit values)
