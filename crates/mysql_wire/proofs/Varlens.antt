-- Lemmas for the reader and the writer of numbers of varying length.
use Rattle.std.proofs.Common.{◌≡◌, ◌≢◌, ℕ, zero, suc, ◌+◌, ◌-◌, ◌*◌, ◌/◌, ◌%◌, ◌^◌, ◌<◌, ◌≤◌, List, [], ◌∷◌, ◌++◌, length, take, drop, Ok, Err, Bool, true, false, ◌==◌, ◌⊎◌, replicate, refl, sym, ap, ◌∙◌, arith, inl, inr}
use Rattle.std.specs.Int.{w8, w64, bit_at, trailing_ones, from_le_bytes, to_le_bytes, bytes_low_first, byte_at}
use Rattle.std.proofs.lemmas.Bool.{lt-ltb, le-ltb, eq-eqb, ne_eqb, eqb-true}
use Rattle.std.proofs.lemmas.List.{length-append, length-drop}
use Rattle.std.proofs.lemmas.Nat.Bits.{bit_at_lowest, bit_at-suc, bit_at-trailing_ones}
use Rattle.mysql_wire.specs.declared.fault.FaultKind.TheVariants as kind
use Rattle.mysql_wire.specs.declared.fault.FaultOf.{FaultOf}
use Rattle.mysql_wire.specs.declared.fault.FaultKind.{FaultKind}
use Rattle.mysql_wire.specs.declared.int.RawInt.{RawInt}
use Rattle.mysql_wire.specs.declared.little_endian.LeU64.{LeU64}
use Rattle.mysql_wire.specs.Int.{raw, raw_int, le_u64}
use Rattle.mysql_wire.specs.Reading.{Reading, then_read, Faults, done-value, done-rest, done-both}
use Rattle.mysql_wire.specs.Form.{number, le_value, bytes}
use Rattle.mysql_wire.specs.Writing.{le_bytes}
use Rattle.mysql_wire.specs.LittleEndian.{length-le_bytes, sum-value}
use Rattle.mysql_wire.proofs.Refused.{fault-goes}
use Rattle.mysql_wire.specs.Varlen.Again.{size_fits}
use Rattle.mysql_wire.specs.Varlen.{varlen, varlen_bytes, varlen_size, low_ones, above_ones}

-- ---- sizes

which : (b : Bool) → (b ≡ true) ⊎ (b ≡ false)
which true = inl refl
which false = inr refl

pub size_is_length : (n : ℕ) → length (varlen_bytes n) ≡ varlen_size n
unfolding varlen_bytes
size_is_length n =
    elim (which (varlen_size n == 9)) [
      | inl nine ↦ rw (nine, eqb-true _ _ nine) (omega (arith, length-le_bytes 8 n))
      | inr fewer ↦ rw fewer (length-le_bytes (varlen_size n) _)
    ]

pub ruleset sizes = (size_is_length)

-- ---- reading

-- the place of the lowest zero bit
ones-bits : (most k n : ℕ) → k < most → bit_at n k ≡ 0 → ((i : ℕ) → i < k → bit_at n i ≡ 1) → low_ones most n ≡ k
ones-bits zero k n lt at below = absurd (omega (arith, lt))
ones-bits (suc most) zero n lt at below = rw (eq-eqb (n % 2) 0 (sym (bit_at_lowest n) ∙ at)) refl
ones-bits (suc most) (suc k) n lt at below =
    let one : n % 2 ≡ 1 = sym (bit_at_lowest n) ∙ below 0 (omega arith) in
    let half : low_ones most (n / 2) ≡ k = ones-bits most k (n / 2) (omega (arith, lt)) (sym (bit_at-suc n k) ∙ at) (λ i l. sym (bit_at-suc n i) ∙ below (suc i) (omega (arith, l))) in
    rw (ne_eqb (n % 2) 0 (λ e. omega (arith, one, e)), half) refl

pub trailing_ones-are : (first : ℕ) → first < 255 → (low_ones 8 first ≡ trailing_ones w8 first) × (trailing_ones w8 first < 8)
trailing_ones-are first lt =
    let t = bit_at-trailing_ones w8 first (omega (arith, lt)) in
    (ones-bits 8 (trailing_ones w8 first) first t.0 t.1 t.2, t.0)

pub none_left : (bytes : List ℕ) → bytes ≡ [] → varlen.reads bytes ≡ Err kind.UnexpectedEof
unfolding varlen
none_left bytes e = rw e refl

raw-number : (r : Reading ℕ) (v : RawInt LeU64 ℕ) (rest : List ℕ) → then_read r (λ n rest. Ok (raw_int n, rest)) ≡ Ok (v, rest) → r ≡ Ok (v.0, rest)
raw-number (Ok x) v rest e = done-both x.0 v.0 x.1 rest (ap (λ (w : RawInt LeU64 ℕ). w.0) (done-value (raw_int x.0) v x.1 rest e)) (done-rest (raw_int x.0) v x.1 rest e)
raw-number (Err d) v rest e = absurd cc

raw-kind : (r : Reading ℕ) (k : FaultKind) → ◌≡◌ {A = Reading (RawInt LeU64 ℕ)} (then_read r (λ n rest. Ok (raw_int n, rest))) (Err k) → r ≡ Err k
raw-kind (Ok x) k h = absurd cc
raw-kind (Err d) k h = cc

raw-faults : (b : Bool) (e : FaultOf) (r : Reading ℕ) → Faults {A = RawInt LeU64 ℕ} b e (then_read r (λ n rest. Ok (raw_int n, rest))) → Faults b e r
raw-faults b e r h = fault-goes {A = RawInt LeU64 ℕ} b b e (then_read r (λ n rest. Ok (raw_int n, rest))) r (λ m. m) (raw-kind r) h

-- what follows ff
pub long_read : (bytes more rest : List ℕ) (v : RawInt LeU64 ℕ) → bytes ≡ 255 ∷ more → le_u64.reads more ≡ Ok (v, rest) → varlen.reads bytes ≡ Ok (v.0, rest)
unfolding varlen raw
long_read bytes more rest v e h = rw e (raw-number _ v rest h)

pub long_fails : (bytes more : List ℕ) (b : Bool) (d : FaultOf) → bytes ≡ 255 ∷ more → Faults b d (le_u64.reads more) → Faults b d (varlen.reads bytes)
unfolding varlen raw
long_fails bytes more b d e h = rw e (raw-faults b d _ h)

-- what follows another byte
opened : (bytes more : List ℕ) (first : ℕ) → bytes ≡ first ∷ more → first < 256 → first ≢ 255 → varlen.reads bytes ≡ above_ones (trailing_ones w8 first) bytes
unfolding varlen
opened bytes more first e lt ne =
    let t = trailing_ones-are first (omega (arith, lt, ne)) in
    rw (e, ne_eqb first 255 ne, t.0, lt-ltb _ _ t.1) refl

module _ (bytes more : List ℕ) (first ones : ℕ) (split : bytes ≡ first ∷ more) (fits : first < 256) (other : first ≢ 255) (counted : ones ≡ trailing_ones w8 first) where
  pub few_ones : ones < 8
  few_ones = rw counted (trailing_ones-are first (omega (arith, fits, other))).1

  pub short_fails : length bytes < ones + 1 → varlen.reads bytes ≡ Err kind.UnexpectedEof
  unfolding number bytes
  short_fails missing = rw (opened bytes more first split fits other, ← counted, lt-ltb (length bytes) (suc ones) (omega (arith, missing))) refl

  pub short_read : (n : ℕ) → ones + 1 ≤ length bytes → n ≡ le_value (take (ones + 1) bytes) → varlen.reads bytes ≡ Ok (n / 2 ^ (ones + 1), drop (ones + 1) bytes)
  unfolding number bytes
  short_read n there value =
      let t : ones + 1 ≡ suc ones = omega arith in
      rw (opened bytes more first split fits other, ← counted, value, t, le-ltb (length bytes) (suc ones) (omega (arith, there))) refl

-- ---- a number from some bytes and zeros

value-zeros : (k m : ℕ) → le_value (drop k (replicate m 0)) ≡ 0
value-zeros zero zero = refl
value-zeros zero (suc m) = let h = value-zeros zero m in omega (arith, h)
value-zeros (suc k) zero = refl
value-zeros (suc k) (suc m) = value-zeros k m

value-before_zeros : (front zeros : List ℕ) → le_value zeros ≡ 0 → le_value (front ++ zeros) ≡ le_value front
value-before_zeros [] zeros e = e
value-before_zeros (b ∷ front) zeros e = ap (λ (n : ℕ). b + 256 * n) (value-before_zeros front zeros e)

pub value-padded : (front : List ℕ) (k n : ℕ) → length front ≡ k → k ≤ 8 → n ≡ from_le_bytes w64 (front ++ drop k (replicate 8 0)) → n ≡ le_value front
value-padded front k n len le value =
    let padded = front ++ drop k (replicate 8 0) in
    let zeros : length {A = ℕ} (drop k (replicate 8 0)) ≡ 8 - k = length-drop k (replicate 8 0) in
    let whole : length padded ≡ 8 = omega (arith, length-append front (drop k (replicate 8 0)), zeros, len, le) in
    value ∙ sum-value padded 7 whole ∙ value-before_zeros front (drop k (replicate 8 0)) (value-zeros k 8)

-- ---- writing

-- the number above a zero bit and ones, if it fits some bytes
pub word_fits : (n size : ℕ) → 0 < size → size ≤ 8 → n < 2 ^ (7 * size)
    → (n * 2 ^ size % 2 ^ 64 + (1 * 2 ^ (size - 1) % 2 ^ 64 - 1) ≡ n * 2 ^ size + (2 ^ (size - 1) - 1)) × (n * 2 ^ size + (2 ^ (size - 1) - 1) < 2 ^ 64) × (1 ≤ 1 * 2 ^ (size - 1) % 2 ^ 64)
word_fits n zero some most lt = absurd (omega (arith, some))
word_fits n (suc zero) some most lt = (omega (arith, lt), omega (arith, lt), omega arith)
word_fits n (suc (suc zero)) some most lt = (omega (arith, lt), omega (arith, lt), omega arith)
word_fits n (suc (suc (suc zero))) some most lt = (omega (arith, lt), omega (arith, lt), omega arith)
word_fits n (suc (suc (suc (suc zero)))) some most lt = (omega (arith, lt), omega (arith, lt), omega arith)
word_fits n (suc (suc (suc (suc (suc zero))))) some most lt = (omega (arith, lt), omega (arith, lt), omega arith)
word_fits n (suc (suc (suc (suc (suc (suc zero)))))) some most lt = (omega (arith, lt), omega (arith, lt), omega arith)
word_fits n (suc (suc (suc (suc (suc (suc (suc zero))))))) some most lt = (omega (arith, lt), omega (arith, lt), omega arith)
word_fits n (suc (suc (suc (suc (suc (suc (suc (suc zero)))))))) some most lt = (omega (arith, lt), omega (arith, lt), omega arith)
word_fits n (suc (suc (suc (suc (suc (suc (suc (suc (suc k))))))))) some most lt = absurd (omega (arith, most))

take-bytes : (i j k n : ℕ) → j ≤ k → take j (bytes_low_first i k n) ≡ bytes_low_first i j n
take-bytes i zero k n le = refl
take-bytes i (suc j) zero n le = absurd (omega (arith, le))
take-bytes i (suc j) (suc k) n le = ap (λ (bs : List ℕ). byte_at i n ∷ bs) (take-bytes (suc i) j k n (omega (arith, le)))

-- the low bytes of a word
pub low_bytes : (size n : ℕ) → size ≤ 8 → take size (to_le_bytes w64 n) ≡ le_bytes size n
unfolding le_bytes
low_bytes size n le = take-bytes 0 size 8 n le

pub bytes_nine : (n : ℕ) → varlen_size n ≡ 9 → varlen_bytes n ≡ 255 ∷ le_bytes 8 n
unfolding varlen_bytes
bytes_nine n e = rw (eq-eqb (varlen_size n) 9 e) refl

pub bytes_fewer : (n : ℕ) → varlen_size n ≢ 9 → varlen_bytes n ≡ le_bytes (varlen_size n) (n * 2 ^ varlen_size n + (2 ^ (varlen_size n - 1) - 1))
unfolding varlen_bytes
bytes_fewer n ne = rw (ne_eqb (varlen_size n) 9 ne) refl

pub ruleset writing = (size_is_length, size_fits, bytes_nine, bytes_fewer, low_bytes, length-le_bytes)

pub ruleset reading = (none_left, long_read, long_fails)
