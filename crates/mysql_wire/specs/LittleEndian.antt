-- Little-endian numbers of any width.
use Rattle.std.specs.Prelude.{◌≡◌, ℕ, zero, suc, ◌+◌, ◌*◌, ◌/◌, ◌%◌, ◌^◌, ◌<◌, List, [], ◌∷◌, length, slice_index, refl}
use Rattle.std.specs.Int.{byte_at, byte_worth, bytes_low_first, sum_through}
use Rattle.std.proofs.Common.{sym, ap, ◌∙◌, arith}
use Rattle.std.proofs.Math.Nat.{div-one, mod-one, mod-eq_of_lt, pow-suc, div-div-eq-div-mul}
use Rattle.std.proofs.Math.Arith.{mod-mul}
use Rattle.mysql_wire.specs.Form.{le_value}
use Rattle.mysql_wire.specs.Writing.{le_bytes}

byte_at-div : (i n : ℕ) → byte_at i n ≡ n / 256 ^ i % 256
byte_at-div zero n = ap (λ (m : ℕ). m % 256) (sym (div-one n))
byte_at-div (suc i) n = refl

pow_256-pos : (k : ℕ) → 0 < 256 ^ k
pow_256-pos zero = omega arith
pow_256-pos (suc k) = let p : 0 < 256 ^ k = pow_256-pos k in rw (pow-suc 256 k) (omega (arith, p))

-- a given number of bytes of a number, from one place on
value-bytes_from : (i k n : ℕ) → le_value (bytes_low_first i k n) ≡ n / 256 ^ i % 256 ^ k
value-bytes_from i zero n = sym (mod-one (n / 256 ^ i))
value-bytes_from i (suc k) n =
    let low : byte_at i n ≡ n / 256 ^ i % 256 = byte_at-div i n in
    let high : le_value (bytes_low_first (suc i) k n) ≡ n / 256 ^ suc i % 256 ^ k = value-bytes_from (suc i) k n in
    let shifted : n / 256 ^ i / 256 ≡ n / 256 ^ suc i = div-div-eq-div-mul n (256 ^ i) 256 ∙ ap (λ (d : ℕ). n / d) (sym (pow-suc 256 i)) in
    let both : n / 256 ^ i % (256 ^ k * 256) ≡ (n / 256 ^ i / 256 % 256 ^ k) * 256 + n / 256 ^ i % 256 = mod-mul (n / 256 ^ i) (pow_256-pos k) (omega arith) in
    rw (low, high, ← shifted, pow-suc 256 k, both) (omega arith)

-- the bytes of a number within the width have its value
pub value-le_bytes : (width n : ℕ) → n < 256 ^ width → le_value (le_bytes width n) ≡ n
unfolding le_bytes
value-le_bytes width n lt = value-bytes_from 0 width n ∙ ap (λ (m : ℕ). m % 256 ^ width) (div-one n) ∙ mod-eq_of_lt lt

length-bytes_from : (i k n : ℕ) → length (bytes_low_first i k n) ≡ k
length-bytes_from i zero n = refl
length-bytes_from i (suc k) n = ap suc (length-bytes_from (suc i) k n)

pub length-le_bytes : (width n : ℕ) → length (le_bytes width n) ≡ width
unfolding le_bytes
length-le_bytes width n = length-bytes_from 0 width n

times_more : (x p q : ℕ) → q ≡ p * 256 → x * q ≡ 256 * (x * p)
times_more x p q e = rw e (grind arith)

worth-shifted : (k x : ℕ) → byte_worth (suc k) x ≡ 256 * byte_worth k x
worth-shifted zero x = omega arith
worth-shifted (suc k) x = times_more x (256 ^ suc k) (256 ^ suc (suc k)) (pow-suc 256 (suc k))

regroup : (b s t u v : ℕ) → s ≡ b + 256 * t → u ≡ 256 * v → s + u ≡ b + 256 * (t + v)
regroup b s t u v p q = omega arith

sum-shifted : (b : ℕ) (bs : List ℕ) (k : ℕ) → sum_through (λ i. byte_worth i (slice_index (b ∷ bs) i)) (suc k) ≡ b + 256 * sum_through (λ i. byte_worth i (slice_index bs i)) k
sum-shifted b bs zero = omega arith
sum-shifted b bs (suc k) =
    let so_far : sum_through (λ i. byte_worth i (slice_index (b ∷ bs) i)) (suc k) ≡ b + 256 * sum_through (λ i. byte_worth i (slice_index bs i)) k = sum-shifted b bs k in
    let next : byte_worth (suc (suc k)) (slice_index bs (suc k)) ≡ 256 * byte_worth (suc k) (slice_index bs (suc k)) = worth-shifted (suc k) (slice_index bs (suc k)) in
    regroup b (sum_through (λ i. byte_worth i (slice_index (b ∷ bs) i)) (suc k)) _ _ _ so_far next

-- `from_le_bytes` of all bytes
pub sum-value : (bs : List ℕ) (k : ℕ) → length bs ≡ suc k → sum_through (λ i. byte_worth i (slice_index bs i)) k ≡ le_value bs
sum-value [] k e = absurd (omega arith)
sum-value (b ∷ []) zero e = omega arith
sum-value (b ∷ []) (suc k) e = absurd (omega arith)
sum-value (b ∷ c ∷ bs) zero e = absurd (omega arith)
sum-value (b ∷ c ∷ bs) (suc k) e = sum-shifted b (c ∷ bs) k ∙ ap (λ (n : ℕ). b + 256 * n) (sum-value (c ∷ bs) k (omega arith))
