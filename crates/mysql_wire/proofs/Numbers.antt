-- Lemmas for the reader of a number.
use Rattle.std.proofs.Common.{◌≡◌, ℕ, suc, ◌≤◌, List, length, take, drop, slice_index, Ok, refl, sym, ◌∙◌, arith}
use Rattle.std.specs.Int.{byte_worth, sum_through}
use Rattle.std.proofs.lemmas.Bool.{le-ltb}
use Rattle.std.proofs.lemmas.List.{length-take}
use Rattle.mysql_wire.specs.Form.{number, le_value, bytes}
use Rattle.mysql_wire.specs.LittleEndian.{sum-value}
use Rattle.mysql_wire.specs.Skip.{skip}

number-there : (width : ℕ) (old : List ℕ) (n : ℕ) → width ≤ length old → le_value (take width old) ≡ n → (number width).reads old ≡ Ok (n, drop width old)
unfolding number bytes
number-there width old n there e = rw (le-ltb _ _ there, e) refl

-- a number of k + 1 bytes that are present
pub number_read : (k : ℕ) (old : List ℕ) (n : ℕ) → suc k ≤ length old → n ≡ sum_through (λ i. byte_worth i (slice_index (take (suc k) old) i)) k → (number (suc k)).reads old ≡ Ok (n, drop (suc k) old)
number_read k old n there e = number-there (suc k) old n there (sym (sum-value (take (suc k) old) k (omega (arith, length-take (suc k) old))) ∙ sym e)

pub ruleset numbers = (number_read)

pub bytes-there : (n : ℕ) (old : List ℕ) → n ≤ length old → (bytes n).reads old ≡ Ok (take n old, drop n old)
unfolding bytes
bytes-there n old there = rw (le-ltb _ _ there) refl

pub skip-there : (n : ℕ) (old : List ℕ) → n ≤ length old → (skip n).reads old ≡ Ok (record {}, drop n old)
unfolding skip
skip-there n old there = rw (bytes-there n old there) refl
