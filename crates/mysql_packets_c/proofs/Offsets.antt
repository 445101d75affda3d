-- The offsets that 16 bits hold.
use Rattle.std.proofs.Common.{◌≡◌, ◌⊎◌, inl, inr, ◌<◌, ◌≤◌, ◌^◌, ◌-◌, ◌||◌, ℕ, ℤ, pos, negsuc, suc, Bool, true, false, if◌then◌else◌, nat_le, nat_lt, refl, arith, FitsSigned, w16, w64}
use Rattle.std.proofs.lemmas.Bool.{le-leb, leb-true, lt-ltb, ltb-false, ltb-true}
use Rattle.std.specs.Int.{cast_signed}
use Rattle.mysql_packets_c.specs.Value.{is_offset}

-- a number in two's complement, by whether it is below 2^63
abbrev signed : ℕ → Bool → ℤ
signed n small = if small then pos n else negsuc (2 ^ 64 - suc n)

or-true : (b : Bool) → (b || true) ≡ true
or-true true = refl
or-true false = refl

fits-by : (n : ℕ) (b : Bool) → n < 2 ^ 64 → nat_lt n (2 ^ 63) ≡ b → FitsSigned w16 (signed n b) → is_offset n ≡ true
fits-by n true whole e fits = rw (lt-ltb n (2 ^ 15) fits.sfits) refl
fits-by n false whole e fits =
    let past : 2 ^ 63 ≤ n = ltb-false n (2 ^ 63) e in
    let small : 2 ^ 64 - suc n < 2 ^ 15 = fits.sfits in
    rw (le-leb (2 ^ 64 - 2 ^ 15) n (omega (arith, past, small, whole))) (or-true (nat_lt n (2 ^ 15)))

-- a number is an offset if its two's complement fits 16 bits
pub fits-offset : (n : ℕ) → n < 2 ^ 64 → FitsSigned w16 (cast_signed w64 n) → is_offset n ≡ true
fits-offset n whole fits = fits-by n (nat_lt n (2 ^ 63)) whole refl fits

low-or-high : (n : ℕ) (low high : Bool) → nat_lt n (2 ^ 15) ≡ low → nat_le (2 ^ 64 - 2 ^ 15) n ≡ high → (low || high) ≡ true → (n < 2 ^ 15) ⊎ (2 ^ 64 - 2 ^ 15 ≤ n)
low-or-high n true high e f some = inl (ltb-true n (2 ^ 15) e)
low-or-high n false true e f some = inr (leb-true (2 ^ 64 - 2 ^ 15) n f)
low-or-high n false false e f some = absurd cc

by-side : (n : ℕ) (b : Bool) → n < 2 ^ 64 → nat_lt n (2 ^ 63) ≡ b → (n < 2 ^ 15) ⊎ (2 ^ 64 - 2 ^ 15 ≤ n) → FitsSigned w16 (signed n b)
by-side n true whole e (inl low) = record { sfits = low }
by-side n true whole e (inr high) = let small : n < 2 ^ 63 = ltb-true n (2 ^ 63) e in absurd (omega (arith, high, small))
by-side n false whole e (inl low) = let past : 2 ^ 63 ≤ n = ltb-false n (2 ^ 63) e in absurd (omega (arith, low, past))
by-side n false whole e (inr high) = record { sfits = omega (arith, high, whole) }

pub offset-fits : (n : ℕ) → n < 2 ^ 64 → is_offset n ≡ true → FitsSigned w16 (cast_signed w64 n)
offset-fits n whole some = by-side n (nat_lt n (2 ^ 63)) whole refl (low-or-high n (nat_lt n (2 ^ 15)) (nat_le (2 ^ 64 - 2 ^ 15) n) refl refl some)

pub ruleset offsets = (fits-offset, offset-fits)
