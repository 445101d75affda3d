-- Byte strings are read back.
use Rattle.std.specs.Prelude.{◌≡◌, ℕ, zero, suc, ◌<◌, ◌≤◌, ◌^◌, List, [], ◌∷◌, ◌++◌, length, take, Some, true, nat_eq, refl}
use Rattle.std.proofs.Common.{ap, arith, append_assoc, eq-eqb}
use Rattle.std.proofs.lemmas.List.{append-nil, take_all}
use Rattle.mysql_wire.specs.declared.int.RawInt.{RawInt}
use Rattle.mysql_wire.specs.Form.{Form, all_left, bytes}
use Rattle.mysql_wire.specs.Int.{byte, le_u32, raw_int}
use Rattle.mysql_wire.specs.Null.{HasNoZero, null_string, null_bytes, before_zero}
use Rattle.mysql_wire.specs.CountedBytes.{counted_bytes, counted_bytes_of, u8_string, u8_string_bytes, u32_string, u32_string_bytes}
use Rattle.std.specs.Cmp.Lexicographic.{pointwise}
use Rattle.mysql_wire.specs.Bare.{bare}
use Rattle.mysql_wire.specs.ConstBytes.{const_bytes, const_value}
use Rattle.mysql_wire.specs.declared.const_bytes.ConstBytes.{ConstBytes}
use Rattle.mysql_wire.specs.Spelling.{IsSpelling, byte-again, le_u32-again}
use Rattle.mysql_wire.specs.Writing.{le_bytes}

-- ---- terminated by a zero

pub before_zero-whole : (content : List ℕ) → HasNoZero content → before_zero content ≡ content
unfolding before_zero
before_zero-whole [] h = refl
before_zero-whole (zero ∷ content) h = absurd h
before_zero-whole (suc b ∷ content) h = ap (λ (t : List ℕ). suc b ∷ t) (before_zero-whole content h)

pub null_string-again : (content : List ℕ) → HasNoZero content → IsSpelling null_string content (null_bytes content)
unfolding null_string
null_string-again content no_zero rest = (no_zero, rw (before_zero-whole content no_zero) (append_assoc content (0 ∷ []) rest))

-- ---- after a length

-- the length is read back, and so is the content after it
counted_bytes-again : {R : Type 0} (count : Form (RawInt R ℕ)) (width most : ℕ) (content : List ℕ) → length content ≤ most
    → IsSpelling count (raw_int (length content)) (le_bytes width (length content)) → IsSpelling (counted_bytes count) content (counted_bytes_of width most content)
unfolding counted_bytes counted_bytes_of bytes
counted_bytes-again count width most content short p rest =
    let n = length content in
    rw (take_all most content short, append_assoc) (n, content ++ rest, (raw_int n, refl, p (content ++ rest)), (refl, refl))

pub u8_string-again : (content : List ℕ) → length content < 2 ^ 8 → IsSpelling u8_string content (u8_string_bytes content)
u8_string-again content short = counted_bytes-again byte 1 255 content (omega arith) (byte-again (length content) short)

pub u32_string-again : (content : List ℕ) → length content < 2 ^ 32 → IsSpelling u32_string content (u32_string_bytes content)
u32_string-again content short = counted_bytes-again le_u32 4 4294967295 content (omega arith) (le_u32-again (length content) short)

-- ---- with a length elsewhere

pub bare-again : (most n : ℕ) (content : List ℕ) → length content ≡ n → n ≤ most → IsSpelling (bare n) content (take most content)
unfolding bytes
bare-again most n content len short rest = rw (take_all most content (omega (arith, len))) (len, refl)

-- ---- to the end of the bytes

pub all_left-again : (content : List ℕ) → all_left.Spells content (content ++ []) []
all_left-again content = (append-nil content, refl)

-- ---- with a length given by the type

pub bytes-again : (n : ℕ) (content : List ℕ) → length content ≡ n → IsSpelling (bytes n) content content
unfolding bytes
bytes-again n content len rest = (len, refl)

same-bytes : (value : List ℕ) → pointwise nat_eq value value ≡ true
same-bytes [] = refl
same-bytes (b ∷ value) = rw (eq-eqb b b refl) (same-bytes value)

pub const_bytes-again : {T : Type 0} (len : ℕ) (value : List ℕ) (v : ConstBytes T len) → length value ≡ len → IsSpelling (const_bytes len value) v value
unfolding const_bytes bytes
const_bytes-again {T} len value v long rest =
    let e : const_value {T = T} len value value ≡ Some v = rw (same-bytes value) refl in
    (value, e, (long, refl))

pub ruleset byte_strings_again = (null_string-again, u8_string-again, u32_string-again, bare-again, all_left-again, bytes-again, const_bytes-again)
