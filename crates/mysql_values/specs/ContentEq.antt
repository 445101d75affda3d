-- Equality of contents.
use Rattle.std.specs.Prelude.{ℕ, ℤ, pos, Bool, if◌then◌else◌, List, [], ◌∷◌, nat_eq, ◌&&◌}
use Rattle.std.specs.Ordering.{int_eq}
use Rattle.std.specs.Cmp.{IsEquivalence, IsPartialEquivalence, and_equiv, on_equiv, partial_equiv_from_equiv, nat_eq_equiv, int_eq_equiv}
use Rattle.std.specs.Cmp.Lexicographic.{pointwise, lists_equiv}
use Rattle.mysql_values.specs.Value.{Content, NULL, Bytes, Int, UInt, Float, Double, Date, Time}

-- what contents are compared by: the kind, a signed number, and the other numbers
abbrev pub kind_of : Content → ℕ
kind_of NULL = 0
kind_of (Bytes bytes) = 1
kind_of (Int n) = 2
kind_of (UInt n) = 3
kind_of (Float bits) = 4
kind_of (Double bits) = 5
kind_of (Date date) = 6
kind_of (Time time) = 7

abbrev pub signed_of : Content → ℤ
signed_of (Int n) = n
signed_of _ = pos 0

abbrev pub numbers_of : Content → List ℕ
numbers_of NULL = []
numbers_of (Bytes bytes) = bytes
numbers_of (Int n) = []
numbers_of (UInt n) = n ∷ []
numbers_of (Float bits) = bits ∷ []
numbers_of (Double bits) = bits ∷ []
numbers_of (Date t) = t.day.year ∷ t.day.month ∷ t.day.day ∷ t.clock.hour ∷ t.clock.minute ∷ t.clock.second ∷ t.micros ∷ []
numbers_of (Time t) = (if t.is_negative then 1 else 0) ∷ t.days ∷ t.clock.hour ∷ t.clock.minute ∷ t.clock.second ∷ t.micros ∷ []

-- the same kind with the same numbers
abbrev pub content_eq : Content → Content → Bool
content_eq a b = nat_eq (kind_of a) (kind_of b) && (int_eq (signed_of a) (signed_of b) && pointwise nat_eq (numbers_of a) (numbers_of b))

pub content_equiv : IsEquivalence content_eq
content_equiv = and_equiv (on_equiv kind_of nat_eq_equiv) (and_equiv (on_equiv signed_of int_eq_equiv) (on_equiv numbers_of (lists_equiv nat_eq_equiv)))

pub content_per : IsPartialEquivalence content_eq
content_per = partial_equiv_from_equiv content_equiv
