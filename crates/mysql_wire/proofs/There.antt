-- Reading with all bytes present.
use Rattle.std.proofs.Common.{◌≡◌, ℕ, suc, ◌≤◌, List, [], ◌∷◌, length, take, drop, slice_index, Ok, refl, arith}
use Rattle.std.specs.Int.{byte_worth, sum_through}
use Rattle.std.proofs.lemmas.Bool.{le-ltb}
use Rattle.mysql_wire.specs.Form.{bytes, number, le_value}
use Rattle.mysql_wire.specs.Int.{raw, raw_int, byte}
use Rattle.mysql_wire.proofs.Blocks.{block_length, ended_whole}
use Rattle.mysql_wire.proofs.Numbers.{number_read, bytes-there, skip-there}

-- an integer of k + 1 bytes that are present
pub integer-there : {R : Type 0} (k : ℕ) (old : List ℕ) (n : ℕ) → suc k ≤ length old → n ≡ sum_through (λ i. byte_worth i (slice_index (take (suc k) old) i)) k → (raw {R = R} (number (suc k))).reads old ≡ Ok (raw_int n, drop (suc k) old)
unfolding raw
integer-there k old n there e = rw (number_read k old n there e) refl

-- a byte that is present
pub byte-there : (old : List ℕ) → 1 ≤ length old → byte.reads old ≡ Ok (raw_int (slice_index (take 1 old) 0), drop 1 old)
unfolding raw number bytes
byte-there (b ∷ rest) there =
    let value : le_value (b ∷ []) ≡ b = omega arith in
    rw (le-ltb _ _ there) cc
byte-there [] there = absurd (omega arith)

-- a block with all bytes present
pub ruleset blocks_there = (block_length, ended_whole, bytes-there, skip-there)
