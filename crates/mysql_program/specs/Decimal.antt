-- Decimal numbers.
use Rattle.std.specs.Prelude.{ℕ, ℤ, pos, neg_ℤ, ◌+◌, ◌^◌, ◌&&◌, nat_le, nat_lt, List, length, drop, Bool, Option, Some, None, option_map, if◌then◌else◌}
use Rattle.std.specs.Char.{is_ascii_digit}
use Rattle.std.specs.List.{list_all}
use Rattle.std.specs.Str.Parse.{digits_value, starts_with_minus}

-- one or more decimal digits
unfoldable pub is_decimal : List ℕ → Bool
is_decimal word = nat_le 1 (length word) && list_all is_ascii_digit word

-- the number that digits write, of any size
unfoldable pub decimal_of : List ℕ → Option ℕ
decimal_of word = if is_decimal word then Some (digits_value 10 word) else None

abbrev pub below : ℕ → Option ℕ → Option ℕ
below bound None = None
below bound (Some n) = if nat_lt n bound then Some n else None

-- the number that digits write, if it is below the bound
abbrev pub number_below : ℕ → List ℕ → Option ℕ
number_below bound word = below bound (decimal_of word)

-- a number of 64 bits with a sign: digits after an optional minus
unfoldable pub i64_of : List ℕ → Option ℤ
i64_of word =
    if starts_with_minus word then option_map (λ n. neg_ℤ (pos n)) (number_below (2 ^ 63 + 1) (drop 1 word))
    else option_map pos (number_below (2 ^ 63) word)
