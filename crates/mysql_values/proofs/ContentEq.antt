-- Contents of one kind with equal numbers are equal.
use Rattle.std.proofs.Common.{◌≡◌, ℕ, Bool, true, false, if◌then◌else◌, ◌↔◌, IsTrue, refl, sym, ap, ◌∙◌, subst, arith, nat_eq}
use Rattle.std.proofs.lemmas.Bool.{and_parts, eqb-true}
use Rattle.std.proofs.lemmas.Bool.Decides.{Decides-int_eq}
use Rattle.std.specs.Cmp.Lexicographic.{pointwise, same_text}
use Rattle.mysql_values.specs.declared.value.Value.{Value}
use Rattle.mysql_values.specs.declared.temporal.DateTime.{DateTime}
use Rattle.mysql_values.specs.declared.temporal.TimeSpan.{TimeSpan}
use Rattle.mysql_values.specs.contracts.value.ValuePartialEq.TheImpl as derived
use Rattle.mysql_values.specs.Value.{Content, NULL, Bytes, Int, UInt, Float, Double, Date, Time, content_of}
use Rattle.mysql_values.specs.ContentEq.{kind_of, signed_of, numbers_of, content_eq, content_equiv}
use Rattle.mysql_values.proofs.ValueEq.{same_content}

sign_number : (a b : Bool) → ◌≡◌ {A = ℕ} (if a then 1 else 0) (if b then 1 else 0) → a ≡ b
sign_number true true e = refl
sign_number false false e = refl
sign_number true false e = absurd (omega arith)
sign_number false true e = absurd (omega arith)

same_date : (t u : DateTime) → numbers_of (Date t) ≡ numbers_of (Date u) → t ≡ u
same_date t u e =
    let year : t.day.year ≡ u.day.year = cc in
    let month : t.day.month ≡ u.day.month = cc in
    let day : t.day.day ≡ u.day.day = cc in
    let hour : t.clock.hour ≡ u.clock.hour = cc in
    let minute : t.clock.minute ≡ u.clock.minute = cc in
    let second : t.clock.second ≡ u.clock.second = cc in
    let micros : t.micros ≡ u.micros = cc in
    λ i. record {
      day = record { year = year i; month = month i; day = day i };
      clock = record { hour = hour i; minute = minute i; second = second i };
      micros = micros i;
    }

same_time : (t u : TimeSpan) → numbers_of (Time t) ≡ numbers_of (Time u) → t ≡ u
same_time t u e =
    let sign : t.is_negative ≡ u.is_negative = sign_number t.is_negative u.is_negative (cc) in
    let days : t.days ≡ u.days = cc in
    let hour : t.clock.hour ≡ u.clock.hour = cc in
    let minute : t.clock.minute ≡ u.clock.minute = cc in
    let second : t.clock.second ≡ u.clock.second = cc in
    let micros : t.micros ≡ u.micros = cc in
    λ i. record {
      is_negative = sign i;
      days = days i;
      clock = record { hour = hour i; minute = minute i; second = second i };
      micros = micros i;
    }

by_parts : (a b : Content) → kind_of a ≡ kind_of b → signed_of a ≡ signed_of b → numbers_of a ≡ numbers_of b → a ≡ b
by_parts NULL NULL k s n = refl
by_parts (Bytes x) (Bytes y) k s n = ap Bytes n
by_parts (Int x) (Int y) k s n = ap Int s
by_parts (UInt x) (UInt y) k s n = let e : x ≡ y = cc in ap UInt e
by_parts (Float x) (Float y) k s n = let e : x ≡ y = cc in ap Float e
by_parts (Double x) (Double y) k s n = let e : x ≡ y = cc in ap Double e
by_parts (Date t) (Date u) k s n = ap Date (same_date t u n)
by_parts (Time t) (Time u) k s n = ap Time (same_time t u n)
by_parts _ _ k s n = absurd (omega (arith, k))

pub content_eq-same : (a b : Content) → content_eq a b ≡ true → a ≡ b
content_eq-same a b e =
    let kinds = and_parts (nat_eq (kind_of a) (kind_of b)) _ e in
    let others = and_parts _ (pointwise nat_eq (numbers_of a) (numbers_of b)) kinds.1 in
    by_parts a b (eqb-true _ _ kinds.0) ((Decides-int_eq (signed_of a) (signed_of b)).0 others.0) (same_text _ _ (sym others.1))

pub equal-same : (a b : Value) → IsTrue (derived.ghosts.eq a b) ↔ (content_of a ≡ content_of b)
equal-same a b = (
  λ e. content_eq-same (content_of a) (content_of b) (sym (same_content a b) ∙ e),
  λ e. same_content a b ∙ subst (λ (c : Content). content_eq (content_of a) c ≡ true) e (content_equiv.refl (content_of a)),
)

pub ruleset equal_values = (equal-same)
