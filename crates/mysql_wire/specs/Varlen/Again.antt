-- Numbers of variable length, and strings after such a length, are read back.
use Rattle.std.specs.Prelude.{◌≡◌, ◌≢◌, ℕ, zero, suc, ◌+◌, ◌-◌, ◌*◌, ◌^◌, ◌<◌, ◌≤◌, ◌⊎◌, List, ◌∷◌, ◌++◌, length, ◌==◌, Bool, true, false, refl}
use Rattle.std.proofs.Common.{arith, append_assoc, inl, inr}
use Rattle.std.proofs.lemmas.Bool.{cases_lt, lt-ltb, le-ltb, eqb-false}
use Rattle.mysql_wire.specs.Form.{bytes}
use Rattle.mysql_wire.specs.Writing.{le_bytes}
use Rattle.mysql_wire.specs.Spelling.{IsSpelling, number-again}
use Rattle.mysql_wire.specs.Varlen.{varlen, varlen_bytes, varlen_size, fewest_from, varlen_string, varlen_string_bytes}

which : (b : Bool) → (b ≡ true) ⊎ (b ≡ false)
which true = inl refl
which false = inr refl

fewest-fits : (left k n : ℕ) → k + left ≤ 8 → (fewest_from left k n ≡ 9) ⊎ ((0 < fewest_from left k n) × (fewest_from left k n ≤ 8) × (n < 2 ^ (7 * fewest_from left k n)))
fewest-fits zero k n le = inl refl
fewest-fits (suc left) k n le =
    elim (cases_lt n (2 ^ (7 * suc k))) [
      | inl lt ↦ rw (lt-ltb _ _ lt) (inr (omega arith, omega (arith, le), lt))
      | inr more ↦ rw (le-ltb _ _ more) (fewest-fits left (suc k) n (omega (arith, le)))
    ]

-- fewer than nine bytes hold the number
pub size_fits : (n : ℕ) → varlen_size n ≢ 9 → (0 < varlen_size n) × (varlen_size n ≤ 8) × (n < 2 ^ (7 * varlen_size n))
unfolding varlen_size
size_fits n ne = elim (fewest-fits 8 0 n (omega arith)) [ inl nine ↦ absurd (ne nine) | inr fits ↦ fits ]

-- the number above a zero and ones, in a given number of bytes
word_fits : (k n : ℕ) → k < 8 → n < 2 ^ (7 * suc k) → n * 2 ^ suc k + (2 ^ k - 1) < 256 ^ suc k
word_fits zero n most lt = omega (arith, lt)
word_fits (suc zero) n most lt = omega (arith, lt)
word_fits (suc (suc zero)) n most lt = omega (arith, lt)
word_fits (suc (suc (suc zero))) n most lt = omega (arith, lt)
word_fits (suc (suc (suc (suc zero)))) n most lt = omega (arith, lt)
word_fits (suc (suc (suc (suc (suc zero))))) n most lt = omega (arith, lt)
word_fits (suc (suc (suc (suc (suc (suc zero)))))) n most lt = omega (arith, lt)
word_fits (suc (suc (suc (suc (suc (suc (suc zero))))))) n most lt = omega (arith, lt)
word_fits (suc (suc (suc (suc (suc (suc (suc (suc k)))))))) n most lt = absurd (omega (arith, most))

short-again : (size n : ℕ) → 0 < size → size ≤ 8 → n < 2 ^ (7 * size) → IsSpelling varlen n (le_bytes size (n * 2 ^ size + (2 ^ (size - 1) - 1)))
unfolding varlen
short-again zero n some most lt rest = absurd (omega (arith, some))
short-again (suc k) n some most lt rest =
    let e : suc k - 1 ≡ k = omega arith in
    inl (k, omega (arith, most), rw e (number-again (suc k) (n * 2 ^ suc k + (2 ^ k - 1)) (word_fits k n (omega (arith, most)) lt) rest))

long-again : (n : ℕ) → n < 2 ^ 64 → IsSpelling varlen n (255 ∷ le_bytes 8 n)
unfolding varlen
long-again n lt rest = inr (le_bytes 8 n ++ rest, refl, number-again 8 n lt rest)

pub varlen_round_trips : (n : ℕ) → n < 2 ^ 64 → IsSpelling varlen n (varlen_bytes n)
unfolding varlen_bytes
varlen_round_trips n lt =
    elim (which (varlen_size n == 9)) [
      | inl nine ↦ rw nine (long-again n lt)
      | inr fewer ↦
          let fits = size_fits n (eqb-false (varlen_size n) 9 fewer) in
          rw fewer (short-again (varlen_size n) n fits.0 fits.1 fits.2)
    ]

pub varlen_string-again : (content : List ℕ) → length content < 2 ^ 64 → IsSpelling varlen_string content (varlen_string_bytes content)
unfolding varlen_string bytes
varlen_string-again content short rest =
    let n = length content in
    rw append_assoc (n, content ++ rest, varlen_round_trips n short (content ++ rest), (refl, refl))
