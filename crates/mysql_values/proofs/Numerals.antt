-- The digits of a number are ASCII, so they are UTF-8.
use Rattle.std.proofs.Common.{◌≡◌, ◌≢◌, ◌==◌, ◌⊎◌, ℕ, ℤ, List, [], ◌∷◌, arith, true, false, IsUtf8, inl, inr}
use Rattle.std.specs.Str.{IsAscii}
use Rattle.std.specs.Str.Parse.{IsNumeral, without_leading_plus, without_leading_sign}
use Rattle.std.proofs.lemmas.Fmt.{IsAscii-from_digits}
use Rattle.std.proofs.lemmas.Bool.Decides.{eqb_tells}
use Rattle.std.proofs.lemmas.Str.{IsUtf8-from_ascii}
use Rattle.std.proofs.lemmas.Str.Ascii.{IsAscii-nil, IsAscii-cons}
use Rattle.mysql_values.specs.Numeral.{WritesSigned, WritesUnsigned}

plus_or_digit : (b : ℕ) (bs : List ℕ) → ((b == 43) ≡ true) × (b ≡ 43) ⊎ ((b == 43) ≡ false) × (b ≢ 43)
    → IsNumeral 10 (without_leading_plus (b ∷ bs)) → IsAscii (b ∷ bs)
plus_or_digit b bs (inl e) h =
    let rest : IsAscii bs = IsAscii-from_digits bs (rw e.0 at h.1) in
    IsAscii-cons b bs (omega (arith, e.1)) rest
plus_or_digit b bs (inr e) h = IsAscii-from_digits (b ∷ bs) (rw e.0 at h.1)

ascii_unsigned : (bs : List ℕ) → IsNumeral 10 (without_leading_plus bs) → IsAscii bs
ascii_unsigned [] h = IsAscii-nil
ascii_unsigned (b ∷ bs) h = plus_or_digit b bs (eqb_tells b 43) h

minus_or_else : (b : ℕ) (bs : List ℕ) → ((b == 45) ≡ true) × (b ≡ 45) ⊎ ((b == 45) ≡ false) × (b ≢ 45)
    → IsNumeral 10 (without_leading_sign (b ∷ bs)) → IsAscii (b ∷ bs)
minus_or_else b bs (inl e) h =
    let rest : IsAscii bs = IsAscii-from_digits bs (rw e.0 at h.1) in
    IsAscii-cons b bs (omega (arith, e.1)) rest
minus_or_else b bs (inr e) h = ascii_unsigned (b ∷ bs) (rw e.0 at h)

ascii_signed : (bs : List ℕ) → IsNumeral 10 (without_leading_sign bs) → IsAscii bs
ascii_signed [] h = IsAscii-nil
ascii_signed (b ∷ bs) h = minus_or_else b bs (eqb_tells b 45) h

pub unsigned_is_text : (bs : List ℕ) (n : ℕ) → WritesUnsigned bs n → IsUtf8 bs
unsigned_is_text bs n h = IsUtf8-from_ascii bs (ascii_unsigned bs h.0)

pub signed_is_text : (bs : List ℕ) (x : ℤ) → WritesSigned bs x → IsUtf8 bs
signed_is_text bs x h = IsUtf8-from_ascii bs (ascii_signed bs h.0)
