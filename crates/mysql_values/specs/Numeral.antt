-- Decimal numbers in bytes.
use Rattle.std.specs.Prelude.{◌≡◌, ℕ, ℤ, List, ◌<◌, ◌^◌}
use Rattle.std.specs.Int.{w64}
use Rattle.std.specs.Int.RustNames.{FitsSigned}
use Rattle.std.specs.Str.Parse.{IsNumeral, digits_value, without_leading_plus, without_leading_sign, signed_digits_value}

-- digits that write n, below 2^64, after an optional plus
abbrev pub WritesUnsigned : List ℕ → ℕ → Type 0
WritesUnsigned bytes n = IsNumeral 10 (without_leading_plus bytes) × (digits_value 10 (without_leading_plus bytes) ≡ n) × (n < 2 ^ 64)

-- digits that write x, which fits in 64 signed bits, after an optional plus or minus
abbrev pub WritesSigned : List ℕ → ℤ → Type 0
WritesSigned bytes x = IsNumeral 10 (without_leading_sign bytes) × (signed_digits_value 10 bytes ≡ x) × FitsSigned w64 x
