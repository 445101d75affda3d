-- The version numbers in a server's version text.
use Rattle.std.specs.Prelude.{◌≡◌, ℕ, zero, suc, ◌==◌, ◌<◌, ◌≤◌, List, [], ◌∷◌, ◌++◌, length, take, drop, Bool, true, false, Ok, Err, codes, if◌then◌else◌, refl}
use Rattle.std.proofs.Common.{ap, sym, ◌∙◌, ◌⊎◌, inl, inr, arith}
use Rattle.std.proofs.lemmas.Bool.{eqb-false, ne_eqb}
use Rattle.std.proofs.lemmas.List.{take-append-drop, take_at, drop_at, length-take-le}
use Rattle.std.proofs.lemmas.Slice.Eq.{bytes_eq-Decides}
use Rattle.std.specs.Str.{bytes_eq}
use Rattle.std.specs.Char.{is_ascii_digit}
use Rattle.std.specs.Str.Parse.{digits_value}
use Rattle.mysql_wire.specs.declared.fault.FaultKind.{FaultKind}
use Rattle.mysql_wire.specs.declared.fault.FaultKind.TheVariants as kind
use Rattle.mysql_wire.specs.Reading.{Reading, IsTail, guard_ok}
use Rattle.mysql_wire.specs.Form.{Form, ◌>>=◌, any_size, give}

-- ---- a number with some digits

abbrev pub AreDigits : List ℕ → Type 0
AreDigits [] = Unit {0}
AreDigits (b ∷ bytes) = (is_ascii_digit b ≡ true) × AreDigits bytes

-- the next byte is no digit
abbrev pub EndsDigits : List ℕ → Type 0
EndsDigits [] = Unit {0}
EndsDigits (b ∷ bytes) = is_ascii_digit b ≡ false

-- The digits at the beginning write the number: at least one, at most this many, and as many as there are up to that.
pub record Digits (most n : ℕ) (bytes rest : List ℕ) : Type 0 where
  pub digits : List ℕ
  pub parts : bytes ≡ digits ++ rest
  pub are_digits : AreDigits digits
  pub some : 0 < length digits
  pub few : length digits ≤ most
  pub longest : length digits < most → EndsDigits rest
  pub value : digits_value 10 digits ≡ n

-- how many digits the bytes begin with, up to this many
abbrev pub digit_count : ℕ → List ℕ → ℕ
digit_count zero bytes = 0
digit_count (suc most) [] = 0
digit_count (suc most) (b ∷ bytes) = if is_ascii_digit b then suc (digit_count most bytes) else 0

either_way : (b : Bool) → (b ≡ true) ⊎ (b ≡ false)
either_way true = inl refl
either_way false = inr refl

-- what is counted
pub record Counts (most : ℕ) (bytes : List ℕ) (count : ℕ) : Type 0 where
  pub few : count ≤ most
  pub within : count ≤ length bytes
  pub are_digits : AreDigits (take count bytes)
  pub longest : count < most → EndsDigits (drop count bytes)

pub counted : (most : ℕ) (bytes : List ℕ) → Counts most bytes (digit_count most bytes)
counted zero bytes = record { few = omega arith; within = omega arith; are_digits = tt; longest = λ lt. absurd (omega (arith, lt)) }
counted (suc most) [] = record { few = omega arith; within = omega arith; are_digits = tt; longest = λ lt. tt }
counted (suc most) (b ∷ bytes) =
    elim (either_way (is_ascii_digit b)) [
      | inl digit ↦
          let more = counted most bytes in
          rw digit
          record {
            few = omega (arith, more.few);
            within = omega (arith, more.within);
            are_digits = (digit, more.are_digits);
            longest = λ lt. more.longest (omega (arith, lt));
          }
      | inr other ↦ rw other record { few = omega arith; within = omega arith; are_digits = tt; longest = λ lt. other }
    ]

-- no other number of digits is the longest
pub count-is : (most : ℕ) (digits rest : List ℕ) → AreDigits digits → length digits ≤ most → (length digits < most → EndsDigits rest) → digit_count most (digits ++ rest) ≡ length digits
count-is zero [] rest all few longest = refl
count-is zero (b ∷ digits) rest all few longest = absurd (omega (arith, few))
count-is (suc most) [] [] all few longest = refl
count-is (suc most) [] (b ∷ rest) all few longest = rw (longest (omega arith)) refl
count-is (suc most) (b ∷ digits) rest all few longest =
    rw (all.0, count-is most digits rest all.1 (omega (arith, few)) (λ lt. longest (omega (arith, lt)))) refl

abbrev pub digits_reads : ℕ → List ℕ → Reading ℕ
digits_reads most bytes =
    if digit_count most bytes == 0 then Err kind.InvalidData
    else Ok (digits_value 10 (take (digit_count most bytes) bytes), drop (digit_count most bytes) bytes)

pub digits-found : (most n : ℕ) (bytes rest : List ℕ) → digits_reads most bytes ≡ Ok (n, rest) → Digits most n bytes rest
digits-found most n bytes rest e =
    let count = digit_count most bytes in
    let g = guard_ok (count == 0) kind.InvalidData (digits_value 10 (take count bytes), drop count bytes) (n, rest) e in
    let later : drop count bytes ≡ rest = ap (λ (p : ℕ × List ℕ). p.1) g.1 in
    let is : Counts most bytes count = counted most bytes in
    let len : length (take count bytes) ≡ count = length-take-le count bytes is.within in
    let more : 0 < count = omega (arith, eqb-false count 0 g.0) in
    record {
      digits = take count bytes;
      parts = rw (← later) (sym (take-append-drop count bytes));
      are_digits = is.are_digits;
      some = omega (arith, len, more);
      few = omega (arith, len, is.few);
      longest = λ lt. rw (← later) (is.longest (omega (arith, len, lt)));
      value = ap (λ (p : ℕ × List ℕ). p.0) g.1;
    }

pub digits-only : (most n : ℕ) (bytes rest : List ℕ) → Digits most n bytes rest → digits_reads most bytes ≡ Ok (n, rest)
digits-only most n bytes rest s =
    let count : digit_count most (s.digits ++ rest) ≡ length s.digits = count-is most s.digits rest s.are_digits s.few s.longest in
    let none : length s.digits == 0 ≡ false = ne_eqb (length s.digits) 0 (λ z. absurd (omega (arith, z, s.some))) in
    rw (s.parts, count, none, take_at s.digits rest (length s.digits) refl, drop_at s.digits rest (length s.digits) refl, s.value) refl

pub digits-front : (most n : ℕ) (bytes rest : List ℕ) → digits_reads most bytes ≡ Ok (n, rest) → IsTail rest bytes
digits-front most n bytes rest e = let s = digits-found most n bytes rest e in record { front = s.digits; parts = s.parts }

abbrev pub number : ℕ → Form ℕ
number most = any_size (Digits most) (digits_reads most) (digits-found most) (digits-only most) (digits-front most)

-- ---- a text

abbrev pub text_reads : List ℕ → List ℕ → Reading (Unit {0})
text_reads text bytes = if bytes_eq (take (length text) bytes) text then Ok (tt, drop (length text) bytes) else Err kind.InvalidData

chosen : {A : Type 0} (b : Bool) (d : FaultKind) (x y : A × List ℕ) → ◌≡◌ {A = Reading A} (if b then Ok x else Err d) (Ok y) → (b ≡ true) × (x ≡ y)
chosen true d x y e = (refl, cc)
chosen false d x y e = absurd cc

pub text-found : (text : List ℕ) (v : Unit {0}) (bytes rest : List ℕ) → text_reads text bytes ≡ Ok (v, rest) → bytes ≡ text ++ rest
text-found text v bytes rest e =
    let c = chosen (bytes_eq (take (length text) bytes) text) kind.InvalidData (tt, drop (length text) bytes) (v, rest) e in
    let front : take (length text) bytes ≡ text = (bytes_eq-Decides (take (length text) bytes) text).0 c.0 in
    let later : drop (length text) bytes ≡ rest = ap (λ (p : Unit {0} × List ℕ). p.1) c.1 in
    sym (take-append-drop (length text) bytes) ∙ ap (λ (f : List ℕ). f ++ drop (length text) bytes) front ∙ ap (λ (b : List ℕ). text ++ b) later

pub text-only : (text : List ℕ) (v : Unit {0}) (bytes rest : List ℕ) → bytes ≡ text ++ rest → text_reads text bytes ≡ Ok (v, rest)
text-only text v bytes rest e =
    let same : bytes_eq text text ≡ true = (bytes_eq-Decides text text).1 refl in
    rw (e, take_at text rest (length text) refl, drop_at text rest (length text) refl, same) refl

abbrev pub literal : List ℕ → Form (Unit {0})
literal text =
    any_size (λ v bytes rest. bytes ≡ text ++ rest) (text_reads text) (text-found text) (text-only text) (λ v bytes rest e. record { front = text; parts = text-found text v bytes rest e })

-- ---- versions

-- three numbers separated by dots: two of one or two digits, and one of the first one to three digits
unfoldable pub version : Form (ℕ × ℕ × ℕ)
version = do
  major ← number 2
  dot ← literal (codes ".")
  minor ← number 2
  dot ← literal (codes ".")
  patch ← number 3
  give (major, minor, patch)

-- such a version directly followed by MariaDB's name
unfoldable pub mariadb_version : Form (ℕ × ℕ × ℕ)
mariadb_version = do
  numbers ← version
  name ← literal (codes "-MariaDB")
  give numbers

-- the text begins with the version
abbrev pub HasVersion : List ℕ → ℕ × ℕ × ℕ → Type 0
HasVersion text v = (tail : List ℕ) × version.Spells v text tail

abbrev pub HasMariadbVersion : List ℕ → ℕ × ℕ × ℕ → Type 0
HasMariadbVersion text v = (tail : List ℕ) × mariadb_version.Spells v text tail

-- MariaDB's prefix for clients that expect a MySQL version
abbrev pub HasMariadbVersionAfter : List ℕ → ℕ × ℕ × ℕ → Type 0
HasMariadbVersionAfter text v = (rest : List ℕ) × (text ≡ codes "5.5.5-" ++ rest) × HasMariadbVersion rest v

-- a MariaDB version: after 5.5.5- if present, otherwise at the start
abbrev pub IsMariadbVersion : List ℕ → ℕ × ℕ × ℕ → Type 0
IsMariadbVersion text v = HasMariadbVersionAfter text v ⊎ (((w : ℕ × ℕ × ℕ) → HasMariadbVersionAfter text w → ⊥) × HasMariadbVersion text v)
