-- Digits are checked before they are decoded.
use Rattle.std.proofs.Common.{◌≡◌, ℕ, ◌%◌, ◌==◌, true, false, List, [], ◌∷◌, length, Result, Ok, Err, Some, None, refl, sym, ◌∙◌, arith}
use Rattle.std.proofs.lemmas.Grind.{common_steps}
use Rattle.std.proofs.lemmas.List.Sums.{AllPass-from_list_all, list_all-from_AllPass}
use Rattle.std.specs.Char.{is_ascii_hexdigit}
use Rattle.std.specs.List.{list_all}
use Rattle.std.specs.Result.{result_ok}
use Rattle.std.proofs.lemmas.Bool.{and_parts}
use Rattle.hex.specs.Hex.{decode_of, is_hex_digit}
use Rattle.hex.specs.declared.error.FromHexError.{FromHexError}
use Rattle.hex.proofs.HexLemmas.{decode_of-digits, decode_of-ok}
use Rattle.mysql_program.specs.Digits.{are_pairs, bytes_of, digits_bytes}

same_digit : (c : ℕ) → is_ascii_hexdigit c ≡ is_hex_digit c
same_digit c = grind (arith, common_steps)

same_digits : (s : List ℕ) → list_all is_ascii_hexdigit s ≡ list_all is_hex_digit s
same_digits [] = refl
same_digits (c ∷ s) = rw (same_digit c, same_digits s) refl

none_result : (r : Result (List ℕ) FromHexError) → ((bytes : List ℕ) → r ≡ Ok bytes → ⊥) → result_ok r ≡ None
none_result (Ok bytes) refused = absurd (refused bytes refl)
none_result (Err e) refused = refl

-- pairs of digits spell bytes
pub bytes_of-pairs : (s : List ℕ) → are_pairs s ≡ true → bytes_of s ≡ Some (digits_bytes s)
unfolding are_pairs
bytes_of-pairs s checked =
    let b = and_parts (length s % 2 == 0) (list_all is_ascii_hexdigit s) checked in
    let even : length s % 2 ≡ 0 = grind (arith, common_steps, b.0) in
    let spelled = decode_of-digits s even (AllPass-from_list_all is_hex_digit s (sym (same_digits s) ∙ b.1)) in
    rw spelled.1 refl

-- and nothing else does
pub bytes_of-other : (s : List ℕ) → are_pairs s ≡ false → bytes_of s ≡ None
unfolding are_pairs
bytes_of-other s checked =
    none_result (decode_of s) (λ bytes e.
    let ok = decode_of-ok s bytes e in
    let all : list_all is_ascii_hexdigit s ≡ true = same_digits s ∙ list_all-from_AllPass is_hex_digit s ok.1 in
    let h : are_pairs s ≡ true = rw (ok.0, all) refl in
    cc)

pub ruleset judged_digits = (bytes_of-pairs, bytes_of-other)
