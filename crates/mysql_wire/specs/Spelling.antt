-- What is written is read back.
use Rattle.std.specs.Prelude.{◌≡◌, ℕ, ◌<◌, ◌^◌, List, [], ◌∷◌, ◌++◌, length, replicate, Some, refl}
use Rattle.std.proofs.Common.{arith, eq-eqb}
use Rattle.std.proofs.lemmas.List.{length-replicate}
use Rattle.mysql_wire.specs.declared.constant.ConstU8.{ConstU8}
use Rattle.mysql_wire.specs.declared.constant.ConstU32.{ConstU32}
use Rattle.mysql_wire.specs.declared.skip.Skip.{Skip}
use Rattle.mysql_wire.specs.Form.{Form, block, bytes, number}
use Rattle.mysql_wire.specs.Writing.{le_bytes}
use Rattle.mysql_wire.specs.LittleEndian.{value-le_bytes, length-le_bytes}
use Rattle.mysql_wire.specs.Int.{byte, le_u16, le_u24, le_u32, le_u64, raw, raw_int}
use Rattle.mysql_wire.specs.Skip.{skip}
use Rattle.mysql_wire.specs.Constant.{const_byte, const_u8, const_le_u32, const_u32}

-- the text encodes the value, whatever follows
abbrev pub IsSpelling : {A : Type 0} → Form A → A → List ℕ → Type 0
IsSpelling f v text = (rest : List ℕ) → f.Spells v (text ++ rest) rest

-- ---- blocks

-- a block encodes what its bytes encode
pub block-again : {A : Type 0} (n : ℕ) (f : Form A) (v : A) (text : List ℕ) → length text ≡ n → f.Spells v text [] → IsSpelling (block n f) v text
unfolding bytes
block-again n f v text len p rest = (text, (len, refl), p)

-- ---- leaves

-- a number of a given number of bytes
pub number-again : (width n : ℕ) → n < 256 ^ width → IsSpelling (number width) n (le_bytes width n)
unfolding number bytes
number-again width n lt rest = (le_bytes width n, value-le_bytes width n lt, (length-le_bytes width n, refl))

-- an integer in any form that encodes its number
pub raw-again : {P : Type 0} (R : Type 0) (form : Form P) (n : P) (text : List ℕ) → IsSpelling form n text → IsSpelling (raw {R = R} form) (raw_int n) text
unfolding raw
raw-again R form n text again rest = (n, refl, again rest)

pub byte-again : (n : ℕ) → n < 2 ^ 8 → IsSpelling byte (raw_int n) (le_bytes 1 n)
byte-again n lt = raw-again _ (number 1) n (le_bytes 1 n) (number-again 1 n lt)

pub le_u16-again : (n : ℕ) → n < 2 ^ 16 → IsSpelling le_u16 (raw_int n) (le_bytes 2 n)
le_u16-again n lt = raw-again _ (number 2) n (le_bytes 2 n) (number-again 2 n lt)

pub le_u24-again : (n : ℕ) → n < 2 ^ 24 → IsSpelling le_u24 (raw_int n) (le_bytes 3 n)
le_u24-again n lt = raw-again _ (number 3) n (le_bytes 3 n) (number-again 3 n lt)

pub le_u32-again : (n : ℕ) → n < 2 ^ 32 → IsSpelling le_u32 (raw_int n) (le_bytes 4 n)
le_u32-again n lt = raw-again _ (number 4) n (le_bytes 4 n) (number-again 4 n lt)

pub le_u64-again : (n : ℕ) → n < 2 ^ 64 → IsSpelling le_u64 (raw_int n) (le_bytes 8 n)
le_u64-again n lt = raw-again _ (number 8) n (le_bytes 8 n) (number-again 8 n lt)

pub ruleset numbers_again = (byte-again, le_u16-again, le_u24-again, le_u32-again, le_u64-again)

pub skip-again : (n : ℕ) (v : Skip n) → IsSpelling (skip n) v (replicate n 0)
unfolding skip bytes
skip-again n v rest = (replicate n 0, refl, (length-replicate n 0, refl))

pub const_byte-again : {T : Type 0} (value : ℕ) (v : ConstU8 T value) → IsSpelling (const_byte value) v (value ∷ [])
unfolding const_byte number bytes
const_byte-again {T} value v rest =
    let e : const_u8 {T = T} value value ≡ Some v = rw (eq-eqb value value refl) refl in
    (value, e, (value ∷ [], omega arith, (refl, refl)))

pub const_u32-again : {T : Type 0} (value : ℕ) (v : ConstU32 T value) → value < 2 ^ 32 → IsSpelling (const_le_u32 value) v (le_bytes 4 value)
unfolding const_le_u32
const_u32-again {T} value v lt rest =
    let e : const_u32 {T = T} value value ≡ Some v = rw (eq-eqb value value refl) refl in
    (raw_int value, e, le_u32-again value lt rest)

pub ruleset constants_again = (const_byte-again, const_u32-again, skip-again, block-again)
