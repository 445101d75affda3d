-- Words that spell numbers.
use Rattle.std.proofs.Common.{◌≡◌, ℕ, zero, suc, ◌<◌, ◌≤◌, ◌^◌, ◌==◌, ◌&&◌, true, List, [], ◌∷◌, length, nat_le, Result, Ok, Err, refl, ap, subst, ◌∙◌, lit≤, arith, IsUtf8}
use Rattle.std.proofs.lemmas.Bool.{and_parts, eqb-true}
use Rattle.std.proofs.lemmas.Str.{IsUtf8-from_ascii}
use Rattle.std.specs.Str.{IsAscii}
use Rattle.std.proofs.lemmas.Grind.{common_steps}
use Rattle.std.proofs.lemmas.Int.Digits.{digits_value-lt}
use Rattle.std.proofs.Math.Nat.{pow-le-pow_right}
use Rattle.std.specs.Char.{is_ascii_hexdigit}
use Rattle.std.specs.List.{list_all}
use Rattle.std.specs.Result.{OkIff}
use Rattle.std.specs.Str.Parse.{AllDigits, ParsesUnsigned, digits_value}
use Rattle.mysql_program.proofs.Numerals.{AreDigits, numeral_of}
use Rattle.mysql_program.specs.Capabilities.{is_flag_word}
use Rattle.mysql_program.specs.TimeText.{is_bit_word}

hexadecimal_digits : AreDigits 16 is_ascii_hexdigit
hexadecimal_digits c e = grind (arith, common_steps)

-- a number of at most eight digits fits four bytes
below : (w : List ℕ) → length w ≤ 8 → AllDigits 16 w → digits_value 16 w < 2 ^ 32
below w short digits =
    let lt = digits_value-lt 16 w digits in
    let le : 16 ^ length w ≤ 16 ^ 8 = pow-le-pow_right (omega arith) short in
    omega (arith, lt, le)

given_ok : {E : Type 0} (r : Result ℕ E) (P : Type 0) (v : ℕ) → P → OkIff r P v → r ≡ Ok v
given_ok (Ok x) P v p parsed = ap Ok parsed.1
given_ok (Err e) P v p parsed = absurd (parsed p)

-- such a word is read as its number
pub flags_parse : {E : Type 0} (w : List ℕ) (r : Result ℕ E) → is_flag_word w ≡ true → ParsesUnsigned 32 16 w r → r ≡ Ok (digits_value 16 w)
unfolding is_flag_word
flags_parse w r checked parsed =
    let b = and_parts (nat_le 1 (length w)) (nat_le (length w) 8 && list_all is_ascii_hexdigit w) checked in
    let d = and_parts (nat_le (length w) 8) (list_all is_ascii_hexdigit w) b.1 in
    let numeral = numeral_of 16 is_ascii_hexdigit hexadecimal_digits w b.0 d.1 in
    let short : length w ≤ 8 = grind (arith, common_steps, d.0) in
    let plain = rw numeral.1 at parsed in
    given_ok r _ (digits_value 16 w) (numeral.0, below w short numeral.0.1) plain

pub ruleset flag_words = (flags_parse)

-- ---- the bits of floats

bit_parts : (count : ℕ) (w : List ℕ) → is_bit_word count w ≡ true → (length w ≡ count) × (list_all is_ascii_hexdigit w ≡ true)
unfolding is_bit_word
bit_parts count w checked =
    let b = and_parts (length w == count) (list_all is_ascii_hexdigit w) checked in
    (eqb-true (length w) count b.0, b.1)

are_ascii : (w : List ℕ) → list_all is_ascii_hexdigit w ≡ true → IsAscii w
are_ascii [] all i = omega arith
are_ascii (c ∷ cs) all zero =
    let first = (and_parts (is_ascii_hexdigit c) (list_all is_ascii_hexdigit cs) all).0 in
    grind (arith, common_steps, first)
are_ascii (c ∷ cs) all (suc i) = are_ascii cs (and_parts (is_ascii_hexdigit c) (list_all is_ascii_hexdigit cs) all).1 i

-- such a word is a text
pub bits_are_text : (count : ℕ) (w : List ℕ) → is_bit_word count w ≡ true → IsUtf8 w
bits_are_text count w checked = IsUtf8-from_ascii w (are_ascii w (bit_parts count w checked).1)

-- and it is read as its number
bits_parse : {E : Type 0} (width count : ℕ) (w : List ℕ) (r : Result ℕ E) → 1 ≤ count → 16 ^ count ≡ 2 ^ width → is_bit_word count w ≡ true → ParsesUnsigned width 16 w r → r ≡ Ok (digits_value 16 w)
bits_parse width count w r some fits checked parsed =
    let b = bit_parts count w checked in
    let long : nat_le 1 (length w) ≡ true = grind (arith, common_steps, b.0) in
    let numeral = numeral_of 16 is_ascii_hexdigit hexadecimal_digits w long b.1 in
    let lt = digits_value-lt 16 w numeral.0.1 in
    let small : digits_value 16 w < 2 ^ width = subst (λ (n : ℕ). digits_value 16 w < n) (ap (λ (n : ℕ). 16 ^ n) b.0 ∙ fits) lt in
    let plain = rw numeral.1 at parsed in
    given_ok r _ (digits_value 16 w) (numeral.0, small) plain

pub float_parse : {E : Type 0} (w : List ℕ) (r : Result ℕ E) → is_bit_word 8 w ≡ true → ParsesUnsigned 32 16 w r → r ≡ Ok (digits_value 16 w)
float_parse w r checked parsed = bits_parse 32 8 w r (lit≤ tt) refl checked parsed

pub double_parse : {E : Type 0} (w : List ℕ) (r : Result ℕ E) → is_bit_word 16 w ≡ true → ParsesUnsigned 64 16 w r → r ≡ Ok (digits_value 16 w)
double_parse w r checked parsed = bits_parse 64 16 w r (lit≤ tt) refl checked parsed

pub ruleset bit_words = (bits_are_text, float_parse, double_parse)
