-- Bits packed into bytes.
use Rattle.std.proofs.Common.{◌≡◌, ◌<◌, ◌≤◌, ◌+◌, ◌*◌, ◌/◌, ◌%◌, ◌^◌, ℕ, zero, suc, Bool, true, false, if◌then◌else◌, List, [], ◌∷◌, ◌++◌, length, map, drop, get_or, slice_index_or, refl, sym, ap, ◌∙◌, arith, add-one}
use Rattle.std.specs.Int.{bit_at}
use Rattle.std.specs.List.{All}
use Rattle.std.proofs.Math.Seq.{drop-nil}
use Rattle.std.proofs.lemmas.List.Elements.{All-head, All-tail}
use Rattle.std.proofs.lemmas.Nat.Bits.{same_from_bits}
use Rattle.mysql_wire.specs.Form.{le_value}
use Rattle.std.proofs.lemmas.List.{drop-drop, get_or-drop, length-drop, length-map}
use Rattle.mysql_stmt.specs.Bitmap.{bytes_for, cell}
use Rattle.mysql_stmt.specs.NullMarks.{MarksNulls, bitmap_of, first_eight, is_null, null_bit, packed}
use Rattle.mysql_stmt.proofs.Cells.{IsBytes, cell_at}
use Rattle.mysql_values.specs.Value.{Content}

-- ---- a byte

-- each bit is 0 or 1
AreBits : List ℕ → Type 0
AreBits bits = (i : ℕ) → get_or bits i 0 < 2

later-bits : (n : ℕ) (bits : List ℕ) → AreBits bits → AreBits (drop n bits)
unfolding AreBits
later-bits n bits h i = omega (arith, get_or-drop n bits i 0, h (n + i))

-- the byte of the first eight bits, bit by bit
eight : (bits : List ℕ) → first_eight bits ≡ get_or bits 0 0 + 2 * get_or bits 1 0 + 4 * get_or bits 2 0 + 8 * get_or bits 3 0
    + 16 * get_or bits 4 0 + 32 * get_or bits 5 0 + 64 * get_or bits 6 0 + 128 * get_or bits 7 0
eight bits = omega (arith, get_or-drop 4 bits 0 0, get_or-drop 4 bits 1 0, get_or-drop 4 bits 2 0, get_or-drop 4 bits 3 0)

small : (bits : List ℕ) → AreBits bits → first_eight bits < 256
unfolding AreBits
small bits h = omega (arith, eight bits, h 0, h 1, h 2, h 3, h 4, h 5, h 6, h 7)

bit-of : (bits : List ℕ) → AreBits bits → (r : ℕ) → r < 8 → bit_at (first_eight bits) r ≡ get_or bits r 0
unfolding AreBits
bit-of bits h r low = ap (λ (n : ℕ). bit_at n r) (eight bits) ∙ one r low
  where
    one : (r : ℕ) → r < 8 → bit_at (get_or bits 0 0 + 2 * get_or bits 1 0 + 4 * get_or bits 2 0 + 8 * get_or bits 3 0
        + 16 * get_or bits 4 0 + 32 * get_or bits 5 0 + 64 * get_or bits 6 0 + 128 * get_or bits 7 0) r ≡ get_or bits r 0
    one zero low = omega (arith, h 0, h 1, h 2, h 3, h 4, h 5, h 6, h 7)
    one (suc zero) low = omega (arith, h 0, h 1, h 2, h 3, h 4, h 5, h 6, h 7)
    one (suc (suc zero)) low = omega (arith, h 0, h 1, h 2, h 3, h 4, h 5, h 6, h 7)
    one (suc (suc (suc zero))) low = omega (arith, h 0, h 1, h 2, h 3, h 4, h 5, h 6, h 7)
    one (suc (suc (suc (suc zero)))) low = omega (arith, h 0, h 1, h 2, h 3, h 4, h 5, h 6, h 7)
    one (suc (suc (suc (suc (suc zero))))) low = omega (arith, h 0, h 1, h 2, h 3, h 4, h 5, h 6, h 7)
    one (suc (suc (suc (suc (suc (suc zero)))))) low = omega (arith, h 0, h 1, h 2, h 3, h 4, h 5, h 6, h 7)
    one (suc (suc (suc (suc (suc (suc (suc zero))))))) low = omega (arith, h 0, h 1, h 2, h 3, h 4, h 5, h 6, h 7)
    one (suc (suc (suc (suc (suc (suc (suc (suc r)))))))) low = absurd (omega (arith, low))

-- ---- bytes

pub bytes-long : (n : ℕ) (bits : List ℕ) → length (packed n bits) ≡ n
bytes-long zero bits = refl
bytes-long (suc n) bits = ap suc (bytes-long n (drop 8 bits))

pub packed-more : (n : ℕ) (bits : List ℕ) → packed (n + 1) bits ≡ packed n bits ++ first_eight (drop (8 * n) bits) ∷ []
packed-more n bits = rw add-one (more n bits)
  where
    more : (n : ℕ) (bits : List ℕ) → packed (suc n) bits ≡ packed n bits ++ first_eight (drop (8 * n) bits) ∷ []
    more zero bits = refl
    more (suc n) bits =
        let later : drop (8 * n) (drop 8 bits) ≡ drop (8 * suc n) bits = drop-drop (8 * n) 8 bits ∙ ap (λ (k : ℕ). drop k bits) (omega arith) in
        ap (λ (l : List ℕ). first_eight bits ∷ l) (more n (drop 8 bits) ∙ ap (λ (l : List ℕ). packed n (drop 8 bits) ++ first_eight l ∷ []) later)

-- the byte at a place; after the last one there are no bits
byte-at : (n : ℕ) (bits : List ℕ) (q : ℕ) → length bits ≤ 8 * n → slice_index_or (packed n bits) q 0 ≡ first_eight (drop (8 * q) bits)
byte-at zero [] zero few = refl
byte-at zero [] (suc q) few = ap first_eight (sym (drop-nil (8 * suc q)))
byte-at zero (b ∷ bits) q few = absurd (omega (arith, few))
byte-at (suc n) bits zero few = refl
byte-at (suc n) bits (suc q) few =
    let left : length (drop 8 bits) ≤ 8 * n = omega (arith, length-drop 8 bits, few) in
    let later : drop (8 * q) (drop 8 bits) ≡ drop (8 * suc q) bits = drop-drop (8 * q) 8 bits ∙ ap (λ (k : ℕ). drop k bits) (omega arith) in
    byte-at n (drop 8 bits) q left ∙ ap first_eight later

are-bytes : (n : ℕ) (bits : List ℕ) → length bits ≤ 8 * n → AreBits bits → IsBytes (packed n bits)
are-bytes n bits few h i =
    let fits : slice_index_or (packed n bits) i 0 < 256 = omega (arith, byte-at n bits i few, small (drop (8 * i) bits) (later-bits (8 * i) bits h)) in
    record { fits = fits }

-- the bits of the bytes are these
packed-bit : (n : ℕ) (bits : List ℕ) (i : ℕ) → length bits ≤ 8 * n → AreBits bits → cell (packed n bits) i ≡ get_or bits i 0
packed-bit n bits i few h =
    let q = i / 8 in
    let r = i % 8 in
    let place : q * 8 + r ≡ i = omega arith in
    let there : 8 * q + r ≡ i = omega arith in
    let low : r < 8 = omega arith in
    ap (cell (packed n bits)) (sym place) ∙ cell_at (packed n bits) (are-bytes n bits few h) q r low
    ∙ ap (λ (b : ℕ). bit_at b r) (byte-at n bits q few) ∙ bit-of (drop (8 * q) bits) (later-bits (8 * q) bits h) r low
    ∙ get_or-drop (8 * q) bits r 0 ∙ ap (λ (k : ℕ). get_or bits k 0) there

-- ---- the bitmap of values

bit-small : (b : Bool) → (if b then 1 else 0) < 2
bit-small true = omega arith
bit-small false = omega arith

null-bits : (held : List Content) → AreBits (map null_bit held)
unfolding AreBits
null-bits [] i = omega arith
null-bits (c ∷ held) zero = bit-small (is_null c)
null-bits (c ∷ held) (suc i) = null-bits held i

pub bitmap-long : (held : List Content) → length (bitmap_of held) ≡ bytes_for 0 (length held)
bitmap-long held = bytes-long (bytes_for 0 (length held)) (map null_bit held)

pub marks-nulls : (held : List Content) → MarksNulls 0 held (bitmap_of held)
marks-nulls held =
    let few : length (map null_bit held) ≤ 8 * bytes_for 0 (length held) = omega (arith, length-map held null_bit) in
    record {
      len = bitmap-long held;
      cells = λ i. packed-bit (bytes_for 0 (length held)) (map null_bit held) i few (null-bits held);
    }

-- ---- the bitmap is unique

same-bytes : (xs ys : List ℕ) → IsBytes xs → IsBytes ys → length xs ≡ length ys → le_value xs ≡ le_value ys → xs ≡ ys
same-bytes [] [] hx hy long same = refl
same-bytes [] (y ∷ ys) hx hy long same = absurd (omega (arith, long))
same-bytes (x ∷ xs) [] hx hy long same = absurd (omega (arith, long))
same-bytes (x ∷ xs) (y ∷ ys) hx hy long same =
    let first : x ≡ y = omega (arith, same, (hx 0).fits, (hy 0).fits) in
    let others : le_value xs ≡ le_value ys = omega (arith, same, (hx 0).fits, (hy 0).fits) in
    let fewer : length xs ≡ length ys = omega (arith, long) in
    ap (λ (b : ℕ). b ∷ xs) first ∙ ap (λ (l : List ℕ). y ∷ l) (same-bytes xs ys (λ i. hx (suc i)) (λ i. hy (suc i)) fewer others)

pub bytes-all : (bytes : List ℕ) → All (λ b. b < 2 ^ 8) bytes → IsBytes bytes
bytes-all [] h i = record { fits = omega arith }
bytes-all (b ∷ bytes) h zero = record { fits = All-head (λ b. b < 2 ^ 8) b bytes h }
bytes-all (b ∷ bytes) h (suc i) = bytes-all bytes (All-tail (λ b. b < 2 ^ 8) b bytes h) i

pub marks-once : (held : List Content) (bitmap : List ℕ) → MarksNulls 0 held bitmap → IsBytes bitmap → bitmap ≡ bitmap_of held
marks-once held bitmap h bytes =
    let few : length (map null_bit held) ≤ 8 * bytes_for 0 (length held) = omega (arith, length-map held null_bit) in
    same-bytes bitmap (bitmap_of held) bytes (are-bytes (bytes_for 0 (length held)) (map null_bit held) few (null-bits held)) (h.len ∙ sym (bitmap-long held))
    (same_from_bits (le_value bitmap) (le_value (bitmap_of held)) (λ i. h.cells i ∙ sym ((marks-nulls held).cells i)))
