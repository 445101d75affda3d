-- Lemmas for the reader of texts.
use Rattle.std.proofs.Common.{◌≡◌, inl, inr, ℕ, ◌+◌, ◌<◌, ◌≤◌, ◌^◌, List, [], ◌∷◌, length, Some, None, Result, Ok, Err, MatchOption, Bool, true, false, ◌&&◌, nat_lt, refl, sym, ap, ◌∙◌, arith}
use Rattle.std.specs.List.{slice_split, position_or_len}
use Rattle.std.specs.Result.{result_ok}
use Rattle.std.specs.Str.{all_ascii_digits}
use Rattle.std.specs.Str.Parse.{ParsesUnsigned, IsNumeral, digits_value, without_leading_plus}
use Rattle.std.proofs.lemmas.Bool.{lt-ltb, le-ltb, ltb-true, ltb-false, and_parts, cases_Bool}
use Rattle.std.proofs.lemmas.List.{length-drop}
use Rattle.std.proofs.lemmas.List.Splits.{slice_split_first, slice_split-cons_no}
use Rattle.std.proofs.lemmas.Str.Parse.{IsNumeralModel, numerals_by_value, tells_all_ascii_digits}
use Rattle.std.proofs.lemmas.Str.Pattern.{IsSplitOnceResult, split_once_first}
use Rattle.mysql_repl.specs.SidText.{colon, hyphen, comma, is, has, before, after, number_in, number_of, parts_of}

-- ---- cuts

cut : (c : ℕ) (bs : List ℕ) (r : _) → IsSplitOnceResult c bs r → c < 128
    → MatchOption r (has c bs ≡ false) (λ x. (has c bs ≡ true) × (x.0.now ≡ before c bs) × (x.1.now ≡ after c bs))
cut c bs None h low = let e = split_once_first c bs None h low in le-ltb _ _ (omega (arith, e))
cut c bs (Some x) h low = let p = split_once_first c bs (Some x) h low in (lt-ltb _ _ p.0, p.1, p.2)

pub cut-colon : (bs : List ℕ) (r : _) → IsSplitOnceResult 58 bs r
    → MatchOption r (has colon bs ≡ false) (λ x. (has colon bs ≡ true) × (x.0.now ≡ before colon bs) × (x.1.now ≡ after colon bs))
cut-colon bs r h = cut 58 bs r h (omega arith)

pub cut-hyphen : (bs : List ℕ) (r : _) → IsSplitOnceResult 45 bs r
    → MatchOption r (has hyphen bs ≡ false) (λ x. (has hyphen bs ≡ true) × (x.0.now ≡ before hyphen bs) × (x.1.now ≡ after hyphen bs))
cut-hyphen bs r h = cut 45 bs r h (omega arith)

pub cut-comma : (bs : List ℕ) (r : _) → IsSplitOnceResult 44 bs r
    → MatchOption r (has comma bs ≡ false) (λ x. (has comma bs ≡ true) × (x.0.now ≡ before comma bs) × (x.1.now ≡ after comma bs))
cut-comma bs r h = cut 44 bs r h (omega arith)

pub ruleset cuts = (cut-colon, cut-hyphen, cut-comma)

-- ---- numbers

own : IsNumeralModel (λ ds. all_ascii_digits ds ≡ true) (digits_value 10)
own = numerals_by_value (λ ds. all_ascii_digits ds ≡ true) tells_all_ascii_digits

pub number-ok : (ds : List ℕ) → IsNumeral 10 ds → digits_value 10 ds < 2 ^ 64 → number_in ds ≡ Some (digits_value 10 ds)
number-ok ds numeral lt = rw (lt-ltb 0 (length ds) numeral.0, own.from ds numeral.1, lt-ltb (digits_value 10 ds) (2 ^ 64) lt) refl

pub numeral-from : (ds : List ℕ) → (nat_lt 0 (length ds) && all_ascii_digits ds) ≡ true → IsNumeral 10 ds
numeral-from ds digits = let p = and_parts (nat_lt 0 (length ds)) (all_ascii_digits ds) digits in (ltb-true _ _ p.0, own.to ds p.1)

number-none : (ds : List ℕ) → (IsNumeral 10 ds × (digits_value 10 ds < 2 ^ 64) → ⊥) → number_in ds ≡ None
number-none ds wrong =
    elim (cases_Bool (nat_lt 0 (length ds) && all_ascii_digits ds)) [
      | inl digits ↦
          elim (cases_Bool (nat_lt (digits_value 10 ds) (2 ^ 64))) [
            | inl small ↦ absurd (wrong (numeral-from ds digits, ltb-true _ _ small))
            | inr large ↦ rw (digits, large) refl
          ]
      | inr other ↦ rw other refl
    ]

pub number-parse : {E : Type 0} (text : List ℕ) (r : Result ℕ E) → ParsesUnsigned 64 10 text r → result_ok r ≡ number_of text
unfolding number_of
number-parse text (Ok x) h = ap Some h.1 ∙ sym (number-ok (without_leading_plus text) h.0.0 h.0.1)
number-parse text (Err e) h = sym (number-none (without_leading_plus text) h)

pub ruleset numbers = (number-parse)

-- ---- parts

pub one-part : (p : ℕ → Bool) (xs : List ℕ) → nat_lt (position_or_len p xs) (length xs) ≡ false → slice_split p xs ≡ xs ∷ []
one-part p [] h = refl
one-part p (x ∷ xs) h =
    elim (cases_Bool (p x)) [
      | inl passes ↦ let none : nat_lt 0 (length (x ∷ xs)) ≡ false = rw passes at h in absurd (omega (arith, ltb-false _ _ none))
      | inr fails ↦
          let longer : nat_lt (1 + position_or_len p xs) (length (x ∷ xs)) ≡ false = rw fails at h in
          let le : length (x ∷ xs) ≤ 1 + position_or_len p xs = ltb-false _ _ longer in
          rw (slice_split-cons_no p x xs fails, one-part p xs (le-ltb _ _ (omega (arith, le)))) refl
    ]

pub last-part : (text : List ℕ) → has colon text ≡ false → parts_of text ≡ text ∷ []
unfolding parts_of
last-part text h = one-part (is colon) text h

pub next-part : (text part left : List ℕ) → has colon text ≡ true → part ≡ before colon text → left ≡ after colon text → parts_of text ≡ part ∷ parts_of left
unfolding parts_of
next-part text part left h p l = rw (p, l) (slice_split_first (is colon) text 0 (ltb-true _ _ h))

pub left-shorter : (text left : List ℕ) → has colon text ≡ true → left ≡ after colon text → length left + 1 < length text + 1
left-shorter text left h e =
    let lt : position_or_len (is colon) text < length text = ltb-true _ _ h in
    rw e (omega (arith, lt, length-drop (position_or_len (is colon) text + 1) text))

pub ruleset first_parts = (last-part, next-part, left-shorter)
