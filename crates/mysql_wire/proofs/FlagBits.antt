-- Testing and changing one bit of a flag word.
use Rattle.std.proofs.Common.{◌≡◌, ◌≢◌, ◌==◌, ℕ, zero, suc, ◌-◌, ◌*◌, ◌/◌, ◌^◌, ◌<◌, Bool, true, false, refl, arith}
use Rattle.std.specs.Int.{bit_at}
use Rattle.std.specs.Int.RustNames.{bit_or}
use Rattle.std.proofs.Math.Nat.{pow-suc}
use Rattle.std.proofs.lemmas.Nat.{pow_pos, pow_below}
use Rattle.std.proofs.lemmas.Nat.Bits.{and_pow, bit_at-lt, bit_at-suc, bit_at_lowest, bit_at_and, bit_at_or, bit_at-pow_same, bit_at-pow_other}
use Rattle.std.proofs.lemmas.Bool.Decides.{nat_tests}
use Rattle.bitflags.specs.Sets.{without}
use Rattle.mysql_wire.specs.Flags.{has, switched}

bit-mask : (b m : ℕ) → b < 2 → 0 < m → (b * m == m) ≡ (b == 1)
bit-mask zero m small pos = grind (arith, nat_tests)
bit-mask (suc zero) m small pos = grind (arith, nat_tests)
bit-mask (suc (suc b)) m small pos = absurd (omega (arith, small))

-- a flag word contains a mask of one bit if that bit is 1
pub has-bit : (flags k : ℕ) → has flags (2 ^ k) ≡ (bit_at flags k == 1)
has-bit flags k = rw (and_pow flags k) (bit-mask (bit_at flags k) (2 ^ k) (bit_at-lt flags k) (pow_pos k))

bit-complement : (size m i : ℕ) → m < 2 ^ size → i < size → bit_at (2 ^ size - 1 - m) i ≡ 1 - bit_at m i
bit-complement zero m i fits below = absurd (omega arith)
bit-complement (suc k) m zero fits below =
    let double = pow-suc 2 k in
    rw (bit_at_lowest (2 ^ suc k - 1 - m), bit_at_lowest m) (omega arith)
bit-complement (suc k) m (suc i) fits below =
    let double = pow-suc 2 k in
    let half : (2 ^ suc k - 1 - m) / 2 ≡ 2 ^ k - 1 - m / 2 = omega arith in
    rw (bit_at-suc (2 ^ suc k - 1 - m) i, bit_at-suc m i, half) (bit-complement k (m / 2) i (omega arith) (omega arith))

same-on : (k flags : ℕ) → bit_at (bit_or flags (2 ^ k)) k ≡ 1
same-on k flags = rw (bit_at_or flags (2 ^ k) k, bit_at-pow_same k) (omega (arith, bit_at-lt flags k))

other-on : (k i flags : ℕ) → i ≢ k → bit_at (bit_or flags (2 ^ k)) i ≡ bit_at flags i
other-on k i flags other = rw (bit_at_or flags (2 ^ k) i, bit_at-pow_other k i other) (omega arith)

same-off : (size k flags : ℕ) → k < size → bit_at (without size flags (2 ^ k)) k ≡ 0
same-off size k flags below =
    rw (bit_at_and flags (2 ^ size - 1 - 2 ^ k) k, bit-complement size (2 ^ k) k (pow_below k size below) below, bit_at-pow_same k) (omega arith)

other-off : (size k i flags : ℕ) → k < size → i < size → i ≢ k → bit_at (without size flags (2 ^ k)) i ≡ bit_at flags i
other-off size k i flags below inside other =
    rw (bit_at_and flags (2 ^ size - 1 - 2 ^ k) i, bit-complement size (2 ^ k) i (pow_below k size below) inside, bit_at-pow_other k i other) (omega (arith, bit_at-lt flags i))

-- the bit is set or cleared
pub has-switched : (size k : ℕ) (on : Bool) (flags : ℕ) → k < size → has (switched size on (2 ^ k) flags) (2 ^ k) ≡ on
has-switched size k true flags below = rw (has-bit (bit_or flags (2 ^ k)) k, same-on k flags) refl
has-switched size k false flags below = rw (has-bit (without size flags (2 ^ k)) k, same-off size k flags below) refl

-- and every other bit is unchanged
pub bit-switched : (size k i : ℕ) (on : Bool) (flags : ℕ) → k < size → i < size → i ≢ k → bit_at (switched size on (2 ^ k) flags) i ≡ bit_at flags i
bit-switched size k i true flags below inside other = other-on k i flags other
bit-switched size k i false flags below inside other = other-off size k i flags below inside other

pub has-other : (size k i : ℕ) (on : Bool) (flags : ℕ) → k < size → i < size → i ≢ k → has (switched size on (2 ^ k) flags) (2 ^ i) ≡ has flags (2 ^ i)
has-other size k i on flags below inside other =
    rw (has-bit (switched size on (2 ^ k) flags) i, has-bit flags i, bit-switched size k i on flags below inside other) refl

pub ruleset switches = (has-switched, bit-switched, has-other)
