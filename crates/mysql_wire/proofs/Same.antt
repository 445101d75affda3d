-- Tests of equality that hold exactly if the values are equal.
use Rattle.std.proofs.Common.{◌≡◌, ℕ, List, Option, Some, None, Bool, true, false, ◌&&◌, nat_eq, Decides, refl, ap, subst}
use Rattle.std.proofs.lemmas.Bool.Decides.{Decides-eqb}
use Rattle.std.proofs.lemmas.Slice.Eq.{slice_eq-Decides}
use Rattle.std.specs.Cmp.Lexicographic.{pointwise}
use Rattle.std.specs.Option.{option_eq}
use denote.Enum.Bare.{Bare, sameb, same_true, true_same}
use denote.Enum.Declared.{Declared}

-- a test combined with one that always holds
pub and-true : {P : Type 0} (test : Bool) → Decides test P → Decides (test && true) P
and-true true d = d
and-true false d = d

pub numbers-same : (m n : ℕ) → Decides (nat_eq m n) (m ≡ n)
numbers-same m n = Decides-eqb m n

pub bytes-same : (xs ys : List ℕ) → Decides (pointwise nat_eq xs ys) (xs ≡ ys)
bytes-same xs ys = slice_eq-Decides numbers-same xs ys _ refl

pub codes-same : (D : Declared) → Bare D.parts → (a b : D.D) → Decides (sameb D a b) (a ≡ b)
codes-same D bare a b = (same_true D bare a b, true_same D a b)

module _ {A : Type 0} {eq : A → A → Bool} (same : (a b : A) → Decides (eq a b) (a ≡ b)) where
  pub options-same : (x y : Option A) → Decides (option_eq eq x y) (x ≡ y)
  options-same None None = (λ e. refl, λ e. refl)
  options-same None (Some b) = (λ e. absurd cc, λ e. absurd cc)
  options-same (Some a) None = (λ e. absurd cc, λ e. absurd cc)
  options-same (Some a) (Some b) = (λ e. ap Some ((same a b).0 e), λ e. (same a b).1 (let h : a ≡ b = cc in h))

-- values are equal if their parts are
module _ {P : Type 0} (eq : P → P → Bool) (Same : P → P → Type 0) where
  pub parts-same : (each : (a b : P) → Decides (eq a b) (Same a b)) → ((a b : P) → Same a b → a ≡ b) → ((a : P) → Same a a) → (a b : P) → Decides (eq a b) (a ≡ b)
  parts-same each join self a b = (λ e. join a b ((each a b).0 e), λ e. subst (λ (c : P). eq a c ≡ true) e ((each a a).1 (self a)))
