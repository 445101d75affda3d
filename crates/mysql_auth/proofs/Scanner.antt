-- Digits, one after another.
use Rattle.std.proofs.Common.{◌≡◌, ℕ, zero, suc, ◌+◌, ◌-◌, ◌*◌, ◌<◌, ◌≤◌, ◌≢◌, ◌^◌, List, [], ◌∷◌, length, take, drop, get_or, Ok, Err, Option, Some, None, true, false, codes, inl, inr, subst, sym, ◌∙◌, refl, arith}
use Rattle.std.proofs.Math.Nat.{pow-le-pow_right}
use Rattle.std.proofs.lemmas.Grind.{pow_more}
use Rattle.std.proofs.lemmas.Int.Digits.{digits_value_more}
use Rattle.std.proofs.lemmas.Bool.{ne_eqb}
use Rattle.std.proofs.lemmas.List.{drop_all, take_all, length-drop}
use Rattle.std.specs.Str.Parse.{digits_value}
use Rattle.mysql_wire.specs.declared.fault.FaultKind.TheVariants as kind
use Rattle.mysql_wire.specs.Form.{Form}
use Rattle.std.specs.Char.{is_ascii_digit}
use Rattle.mysql_auth.specs.Version.{digit_count, digits_reads, literal, text-only, HasMariadbVersion, HasMariadbVersionAfter, IsMariadbVersion}
use Rattle.mysql_wire.specs.Reading.{done-rest}
use Rattle.std.specs.Prelude.{IfNone}

-- one more digit
pub count-more : (most i : ℕ) (text : List ℕ) → i < most → i < length text → is_ascii_digit (get_or text i 0) ≡ true
    → digit_count (most - i) (drop i text) ≡ suc (digit_count (most - (i + 1)) (drop (i + 1) text))
count-more most i [] lt within e = absurd (omega (arith, within))
count-more zero i (b ∷ text) lt within e = absurd (omega (arith, lt))
count-more (suc most) zero (b ∷ text) lt within e =
    let all : suc most - 0 ≡ suc most = omega arith in
    let other : suc most - (0 + 1) ≡ most = omega arith in
    rw (all, other, e) refl
count-more (suc most) (suc i) (b ∷ text) lt within e =
    let less : suc most - suc i ≡ most - i = omega arith in
    let less_too : suc most - (suc i + 1) ≡ most - (i + 1) = omega arith in
    let next : suc i + 1 ≡ suc (i + 1) = omega arith in
    rw (less, less_too, next) (count-more most i text (omega (arith, lt)) (omega (arith, within)) e)

-- counting stops: three digits were counted, the text ends, or the next character is no digit
pub count-enough : (most i : ℕ) (text : List ℕ) → most ≤ i → digit_count (most - i) text ≡ 0
count-enough most i text le = rw (let z : most - i ≡ 0 = omega (arith, le) in z) refl

count-nil : (most : ℕ) → digit_count most [] ≡ 0
count-nil zero = refl
count-nil (suc most) = refl

pub count-end : (most i : ℕ) (text : List ℕ) → length text ≤ i → digit_count most (drop i text) ≡ 0
count-end most i text le = rw (drop_all i text le) (count-nil most)

pub count-none : (most i : ℕ) (text : List ℕ) → is_ascii_digit (get_or text i 0) ≡ false → digit_count (most - i) (drop i text) ≡ 0
count-none zero i text e = count-enough zero i (drop i text) (omega arith)
count-none (suc most) i [] e = count-end (suc most - i) i [] (omega arith)
count-none (suc most) zero (b ∷ text) e = rw (let all : suc most - 0 ≡ suc most = omega arith in all, e) refl
count-none (suc most) (suc i) (b ∷ text) e =
    let less : suc most - suc i ≡ most - i = omega arith in
    rw less (count-none most i text e)

-- a number below 1,000 has at most three digits
pub power-small : (i : ℕ) → i < 3 → 10 ^ i ≤ 100
power-small i lt = pow-le-pow_right (omega arith) (let le : i ≤ 2 = omega (arith, lt) in le)

pub power-more : (i : ℕ) → 10 ^ (i + 1) ≡ 10 ^ i * 10
power-more i = pow_more 10 i

-- the counted digits denote the number
pub number-is : (most count number : ℕ) (text : List ℕ) → digit_count most text ≡ count → count ≢ 0 → number ≡ digits_value 10 (take count text)
    → digits_reads most text ≡ Ok (number, take (length text - count) (drop count text))
number-is most count number text counted some value =
    rw (counted, ne_eqb count 0 some, value, take_all (length text - count) (drop count text) (omega (arith, length-drop count text))) refl

-- what a scanner's result says about a form
module _ {A : Type 0} (f : Form A) (text : List ℕ) where
  pub scans-some : (v : A) (rest : List ℕ) → f.reads text ≡ Ok (v, rest) → (tail : List ℕ) × f.Spells v text tail
  scans-some v rest e = (rest, f.found v text rest e)

  pub scans-none : f.reads text ≡ Err kind.InvalidData → (v : A) → ((tail : List ℕ) × f.Spells v text tail) → ⊥
  scans-none e v s =
      let read : f.reads text ≡ Ok (v, s.0) = f.only v text s.0 s.1 in
      absurd cc

-- a version of MariaDB after 5.5.5- is that of the text there
pub after-none : (text rest : List ℕ) (r : Option (ℕ × ℕ × ℕ)) → (literal (codes "5.5.5-")).reads text ≡ Ok (tt, rest)
    → IfNone r ((v : ℕ × ℕ × ℕ) → HasMariadbVersion rest v → ⊥) → IfNone r ((v : ℕ × ℕ × ℕ) → HasMariadbVersionAfter text v → ⊥)
after-none text rest None e h = λ v s.
    let same : s.0 ≡ rest = done-rest tt tt s.0 rest (sym (text-only (codes "5.5.5-") tt text s.0 s.1) ∙ e) in
    h v (subst (λ (t : List ℕ). HasMariadbVersion t v) same s.2)
after-none text rest (Some x) e h = h

-- neither after 5.5.5- nor at the start
pub neither : (text : List ℕ) (r : Option (ℕ × ℕ × ℕ)) → ((v : ℕ × ℕ × ℕ) → HasMariadbVersionAfter text v → ⊥)
    → IfNone r ((v : ℕ × ℕ × ℕ) → HasMariadbVersion text v → ⊥) → IfNone r ((v : ℕ × ℕ × ℕ) → IsMariadbVersion text v → ⊥)
neither text None no_after no_start = λ v s. elim s [ inl h ↦ no_after v h | inr h ↦ no_start v h.1 ]
neither text (Some x) no_after no_start = no_start

pub ruleset digit_counts = (count-more, count-enough, count-end, count-none, power-small, power-more, digits_value_more)
