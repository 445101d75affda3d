-- A binary digit of the bytes' number is a bit of one byte.
use Rattle.std.proofs.Common.{◌≡◌, ◌≢◌, ◌⊎◌, ◌↔◌, IsTrue, ◌==◌, ◌+◌, ◌-◌, ◌*◌, ◌/◌, ◌%◌, ◌<◌, ◌^◌, ◌∷◌, [], ℕ, List, length, zero, suc, refl, sym, ◌∙◌, ap, arith, slice_index_or, slice_set, Fits, w8, inl, inr, true, false, bit_and}
use Rattle.std.specs.Int.{bit_at}
use Rattle.std.proofs.lemmas.Nat.Bits.{bit_at-zero, bit_at_cat_low, bit_at_cat_high, shr_and_one}
use Rattle.std.proofs.lemmas.Bool.Decides.{nat_tests, eqb_tells}
use Rattle.std.proofs.lemmas.List.{get_or-set_same, get_or-set_other}
use Rattle.mysql_wire.specs.Form.{le_value}
use Rattle.mysql_stmt.specs.Bitmap.{cell}

abbrev pub IsBytes : List ℕ → Type 0
IsBytes bs = (i : ℕ) → Fits w8 (slice_index_or bs i 0)

rest_fits : (b : ℕ) (bs : List ℕ) → IsBytes (b ∷ bs) → IsBytes bs
rest_fits b bs h = λ i. h (suc i)

-- the first byte has the lowest digits
low_byte : (b : ℕ) (bs : List ℕ) → le_value (b ∷ bs) ≡ le_value bs * 2 ^ 8 + b
low_byte b bs = omega arith

pub cell_at : (bs : List ℕ) → IsBytes bs → (q r : ℕ) → r < 8 → cell bs (q * 8 + r) ≡ bit_at (slice_index_or bs q 0) r
cell_at [] h q r low = bit_at-zero (q * 8 + r) ∙ sym (bit_at-zero r)
cell_at (b ∷ bs) h zero r low =
    let same : 0 * 8 + r ≡ r = omega arith in
    ap (λ n. cell (b ∷ bs) n) same ∙ ap (λ (n : ℕ). bit_at n r) (low_byte b bs) ∙ bit_at_cat_low (le_value bs) 8 b r low
cell_at (b ∷ bs) h (suc q) r low =
    let back : suc q * 8 + r - 8 ≡ q * 8 + r = omega arith in
    ap (λ (n : ℕ). bit_at n (suc q * 8 + r)) (low_byte b bs) ∙ bit_at_cat_high (le_value bs) 8 b (suc q * 8 + r) (h 0).fits (omega arith) ∙ ap (λ n. cell bs n) back ∙ cell_at bs (rest_fits b bs h) q r low

set_fits : (bs : List ℕ) → IsBytes bs → (q v : ℕ) → v < 256 → IsBytes (slice_set bs q v)
set_fits [] h q v small i = h i
set_fits (b ∷ bs) h zero v small zero = record { fits = small }
set_fits (b ∷ bs) h zero v small (suc i) = h (suc i)
set_fits (b ∷ bs) h (suc q) v small zero = h 0
set_fits (b ∷ bs) h (suc q) v small (suc i) = set_fits bs (rest_fits b bs h) q v small i

pub cell-set_same : (bs : List ℕ) → IsBytes bs → (q r v : ℕ) → r < 8 → q < length bs → v < 256 → cell (slice_set bs q v) (q * 8 + r) ≡ bit_at v r
cell-set_same bs h q r v low within small =
    cell_at (slice_set bs q v) (set_fits bs h q v small) q r low ∙ ap (λ n. bit_at n r) (get_or-set_same bs q v 0 within)

byte-set_other : (bs : List ℕ) (q r v p k : ℕ) → q < length bs → k < 8
    → ((k : ℕ) → k < 8 → k ≢ r → bit_at v k ≡ bit_at (slice_index_or bs q 0) k)
    → p * 8 + k ≢ q * 8 + r → ((p == q) ≡ true) × (p ≡ q) ⊎ ((p == q) ≡ false) × (p ≢ q)
    → bit_at (slice_index_or (slice_set bs q v) p 0) k ≡ bit_at (slice_index_or bs p 0) k
byte-set_other bs q r v p k within low alike other (inl h) =
    let apart : k ≢ r = λ e. other (rw (h.1, e) refl) in
    rw (h.1, get_or-set_same bs q v 0 within) (alike k low apart)
byte-set_other bs q r v p k within low alike other (inr h) = ap (λ n. bit_at n k) (get_or-set_other bs q p v 0 h.1)

-- if one bit of a byte changes, every other digit is unchanged
pub cell-set_other : (bs : List ℕ) → IsBytes bs → (q r v : ℕ) → q < length bs → v < 256
    → ((k : ℕ) → k < 8 → k ≢ r → bit_at v k ≡ bit_at (slice_index_or bs q 0) k)
    → (j : ℕ) → j ≢ q * 8 + r → cell (slice_set bs q v) j ≡ cell bs j
cell-set_other bs h q r v within small alike j other =
    let split : j ≡ j / 8 * 8 + j % 8 = omega arith in
    let low : j % 8 < 8 = omega arith in
    let new : cell (slice_set bs q v) j ≡ bit_at (slice_index_or (slice_set bs q v) (j / 8) 0) (j % 8) =
    ap (λ n. cell (slice_set bs q v) n) split ∙ cell_at (slice_set bs q v) (set_fits bs h q v small) (j / 8) (j % 8) low in
    let old : cell bs j ≡ bit_at (slice_index_or bs (j / 8) 0) (j % 8) =
    ap (λ n. cell bs n) split ∙ cell_at bs h (j / 8) (j % 8) low in
    new ∙ byte-set_other bs q r v (j / 8) (j % 8) within low alike (λ e. other (split ∙ e)) (eqb_tells (j / 8) q) ∙ sym old

-- `(byte >> r) & 1 == 1`
pub is_one : (bs : List ℕ) → IsBytes bs → (q r n : ℕ) → r < 8 → q * 8 + r ≡ n
    → IsTrue (bit_and (slice_index_or bs q 0 / 2 ^ r) 1 == 1) ↔ (cell bs n ≡ 1)
is_one bs h q r n low place = rw (← place, shr_and_one (slice_index_or bs q 0) r, cell_at bs h q r low) (grind (arith, nat_tests))
