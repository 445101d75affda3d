-- Numbers in decimal.
use Rattle.std.proofs.Common.{◌≡◌, ℕ, ◌<◌, ◌≤◌, ◌^◌, true, false, List, [], ◌∷◌, length, take, nat_eq, nat_le, Result, Ok, Err, Option, Some, None, refl, sym, ap, ◌∙◌, arith, IsUtf8}
use Rattle.std.proofs.lemmas.Grind.{common_steps}
use Rattle.std.specs.Cmp.Lexicographic.{pointwise}
use Rattle.std.specs.Char.{is_ascii_digit}
use Rattle.std.specs.List.{list_all}
use Rattle.std.specs.Result.{OkIff, result_ok}
use Rattle.std.specs.Str.Parse.{IsNumeral, ParsesUnsigned, digits_value, without_leading_plus, starts_with_minus}
use Rattle.std.proofs.lemmas.Fmt.{IsAscii-from_digits}
use Rattle.std.proofs.lemmas.Str.{IsUtf8-from_ascii}
use Rattle.std.proofs.lemmas.Bool.{and_parts}
use Rattle.mysql_program.proofs.Numerals.{AreDigits, numeral_of}
use Rattle.mysql_program.specs.Decimal.{is_decimal, decimal_of, below, number_below}

decimal_digits : AreDigits 10 is_ascii_digit
decimal_digits c e = grind (arith, common_steps)

-- such a word is a numeral
pub is_numeral : (w : List ℕ) → is_decimal w ≡ true → IsNumeral 10 w × (without_leading_plus w ≡ w)
unfolding is_decimal
is_numeral w checked =
    let b = and_parts (nat_le 1 (length w)) (list_all is_ascii_digit w) checked in
    numeral_of 10 is_ascii_digit decimal_digits w b.0 b.1

-- and a text
pub is_text : (w : List ℕ) → is_decimal w ≡ true → IsUtf8 w
is_text w checked = IsUtf8-from_ascii w (IsAscii-from_digits w (is_numeral w checked).0.1)

-- a word that is no numeral is no number
pub not_number : (bound : ℕ) (w : List ℕ) → is_decimal w ≡ false → number_below bound w ≡ None
unfolding decimal_of
not_number bound w checked = rw checked refl

number_at : (w : List ℕ) → is_decimal w ≡ true → decimal_of w ≡ Some (digits_value 10 w)
unfolding decimal_of
number_at w checked = rw checked refl

in_range : {E : Type 0} (w : List ℕ) (n : ℕ) (r : Result ℕ E) → IsNumeral 10 w → OkIff r (IsNumeral 10 w × (n < 2 ^ 64)) n → result_ok r ≡ below (2 ^ 64) (Some n)
in_range w n (Ok x) numeral parsed = grind (arith, common_steps)
in_range w n (Err e) numeral parsed =
    let out : n < 2 ^ 64 → ⊥ = λ h. parsed (numeral, h) in
    grind (arith, common_steps)

-- a numeral is read as its number
pub number_parse : {E : Type 0} (w : List ℕ) (r : Result ℕ E) → is_decimal w ≡ true → ParsesUnsigned 64 10 w r → result_ok r ≡ number_below (2 ^ 64) w
number_parse w r checked parsed =
    let numeral = is_numeral w checked in
    let plain = rw numeral.1 at parsed in
    in_range w (digits_value 10 w) r numeral.0 plain ∙ ap (below (2 ^ 64)) (sym (number_at w checked))

pub ruleset numbers = (not_number, number_parse, is_text)

-- ---- a number is below a larger bound

pub narrow_none : (bound : ℕ) (x : Option ℕ) → below (2 ^ 64) x ≡ None → bound ≤ 2 ^ 64 → below bound x ≡ None
narrow_none bound None h le = refl
narrow_none bound (Some n) h le = grind (arith, common_steps)

pub narrow_some : (bound n : ℕ) (x : Option ℕ) → below (2 ^ 64) x ≡ Some n → below bound x ≡ below bound (Some n)
narrow_some bound n None h = absurd cc
narrow_some bound n (Some m) h =
    let e : m ≡ n = grind (arith, common_steps) in
    ap (λ (k : ℕ). below bound (Some k)) e

pub minus : (w : List ℕ) → pointwise nat_eq (take 1 w) (45 ∷ []) ≡ starts_with_minus w
minus [] = refl
minus (c ∷ cs) = grind (arith, common_steps)

pub ruleset narrower = (narrow_none, narrow_some)

pub ruleset signed = (narrow_none, narrow_some, minus)
