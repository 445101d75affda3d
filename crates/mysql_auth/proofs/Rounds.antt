-- The rounds of parsec have 32 bits.
use Rattle.std.proofs.Common.{◌≡◌, ℕ, ◌*◌, ◌%◌, ◌^◌, ◌≤◌, arith}
use Rattle.std.proofs.Math.Nat.{pow-le-pow_right, mod-eq_of_lt}

pub rounds-whole : (factor : ℕ) → factor ≤ 20 → 1024 * 2 ^ factor % 4294967296 ≡ 1024 * 2 ^ factor
rounds-whole factor small =
    let most : 2 ^ factor ≤ 2 ^ 20 = pow-le-pow_right (omega arith) small in
    mod-eq_of_lt (omega (arith, most))

pub ruleset rounds = (rounds-whole)
