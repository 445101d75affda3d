-- A bitmap that was read has a bit for each value.
use Rattle.std.proofs.Common.{◌≡◌, ℕ, ◌+◌, ◌*◌, ◌/◌, ◌<◌, ◌^◌, ◌==◌, ◌↔◌, IsTrue, List, length, Ok, Bool, true, false, nat_lt, sym, ap, ◌∙◌, arith}
use Rattle.std.proofs.lemmas.Bool.Decides.{nat_tests}
use Rattle.mysql_wire.specs.Form.{map, either, bytes}
use Rattle.mysql_wire.specs.Bare.{bare}
use Rattle.mysql_stmt.specs.Bitmap.{Bitmap, bytes_for}
use Rattle.mysql_stmt.specs.NullBitmap.{null_bitmap, borrowed, missing}
use Rattle.mysql_stmt.specs.RowView.{HasBits}

either-length : (b : Bool) (n : ℕ) (v : Bitmap) (input rest : List ℕ) → (either b (map borrowed (bare n)) missing).Spells v input rest → length v.bytes ≡ n
unfolding bytes
either-length true n v input rest s = ap (λ (b : Bitmap). length b.bytes) (sym s.1) ∙ s.2.0
either-length false n v input rest s = absurd s

bitmap-length : (offset count : ℕ) (v : Bitmap) (input rest : List ℕ) → (null_bitmap offset count).reads input ≡ Ok (v, rest) → length v.bytes ≡ bytes_for offset count
unfolding null_bitmap
bitmap-length offset count v input rest e =
    either-length (nat_lt (count + 7 + offset) (2 ^ 64)) (bytes_for offset count) v input rest ((null_bitmap offset count).found v input rest e)

pub has-bits : (offset count : ℕ) (v : Bitmap) (input rest : List ℕ) → (null_bitmap offset count).reads input ≡ Ok (v, rest) → (i : ℕ) → i < count → i + offset < 8 * length v.bytes
has-bits offset count v input rest e i lt =
    let len : length v.bytes ≡ (count + 7 + offset) / 8 = bitmap-length offset count v input rest e in
    omega (arith, len, lt)

-- the test of a bit
pub is-one : (b : Bool) (n : ℕ) → IsTrue b ↔ (n ≡ 1) → b ≡ (n == 1)
is-one b n h = grind (arith, nat_tests, h)

-- the bits of the values after a value that was read
pub bits-after : (offset : ℕ) (nulls : List ℕ) (none : Bool) (place left more : ℕ) → HasBits nulls offset none place left → left ≡ more + 1 → HasBits nulls offset none (place + 1) more
bits-after offset nulls none place left more h one = record {
  bits = λ i lt. let b : place + (i + 1) + offset < 8 * length nulls = h.bits (i + 1) (omega (arith, lt, one)) in omega (arith, b);
  clear = h.clear;
  counted = omega (arith, h.counted, one);
}

pub ruleset next_bits = (bits-after)
