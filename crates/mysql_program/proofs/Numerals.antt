-- Words of digits in any base.
use Rattle.std.proofs.Common.{◌≡◌, ◌≢◌, ℕ, ◌<◌, Bool, true, List, [], ◌∷◌, length, nat_le, arith}
use Rattle.std.proofs.lemmas.Grind.{common_steps}
use Rattle.std.specs.Char.{digit_value}
use Rattle.std.specs.List.{list_all}
use Rattle.std.specs.Str.Parse.{AllDigits, IsNumeral, without_leading_plus}
use Rattle.std.proofs.lemmas.Bool.{and_parts}

-- each of these characters is a digit of the base, and none is a plus sign
abbrev pub AreDigits : (base : ℕ) → (ℕ → Bool) → Type 0
AreDigits base is_digit = (c : ℕ) → is_digit c ≡ true → (digit_value c < base) × (c ≢ 43)

all_digits : (base : ℕ) (is_digit : ℕ → Bool) → AreDigits base is_digit → (w : List ℕ) → list_all is_digit w ≡ true → AllDigits base w
all_digits base is_digit are [] e = tt
all_digits base is_digit are (c ∷ cs) e =
    let b = and_parts (is_digit c) (list_all is_digit cs) e in
    ((are c b.0).0, all_digits base is_digit are cs b.1)

no_plus : (c : ℕ) (cs : List ℕ) → c ≢ 43 → without_leading_plus (c ∷ cs) ≡ c ∷ cs
no_plus c cs other = grind (arith, common_steps)

-- a word of such digits is a numeral without a plus sign
pub numeral_of : (base : ℕ) (is_digit : ℕ → Bool) → AreDigits base is_digit → (w : List ℕ) → nat_le 1 (length w) ≡ true → list_all is_digit w ≡ true → IsNumeral base w × (without_leading_plus w ≡ w)
numeral_of base is_digit are [] some all = absurd cc
numeral_of base is_digit are (c ∷ cs) some all =
    let first = (and_parts (is_digit c) (list_all is_digit cs) all).0 in
    ((omega arith, all_digits base is_digit are (c ∷ cs) all), no_plus c cs (are c first).1)
