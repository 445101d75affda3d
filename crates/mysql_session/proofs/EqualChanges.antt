-- Session changes and their parts compare equal exactly if they are equal.
use Rattle.std.proofs.Common.{◌≡◌, ◌↔◌, ◌&&◌, List, nat_eq, Decides, IsTrue, true, refl, ap, subst}
use Rattle.std.proofs.lemmas.Bool.Decides.{Decides-and}
use borrow.Author.Tests.{clash}
use Rattle.std.proofs.lemmas.Slice.Eq.{slice_eq-Decides}
use Rattle.std.specs.Cmp.{booleans_Decides}
use Rattle.std.specs.Cmp.Lexicographic.{pointwise}
use Rattle.mysql_session.specs.contracts.session_state_change.SessionStateChangePartialEq.TheImpl as derived
use Rattle.mysql_session.specs.contracts.system_variable.SystemVariablePartialEq.TheImpl as derived_variable
use Rattle.mysql_session.specs.declared.session_state_change.SessionStateChange.{SessionStateChange}
use Rattle.mysql_session.specs.declared.session_state_change.SessionStateChange.TheVariants as change
use Rattle.mysql_session.specs.declared.system_variable.SystemVariable.{SystemVariable}
use Rattle.mysql_session.specs.declared.session_text.SessionText.{SessionText}
use Rattle.mysql_session.specs.SessionText.{text_bytes, text_of}
use Rattle.mysql_session.specs.SystemVariable.{variable_of}
use Rattle.mysql_session.proofs.Same.{and-true, bytes-same}

variable-each : (a b : SystemVariable) → Decides (derived_variable.ghosts.eq a b) ((a.name ≡ b.name) × (a.value ≡ b.value))
variable-each a b = Decides-and _ _ (bytes-same a.name b.name) (bytes-same a.value b.value)

pub variables-same : (a b : SystemVariable) → IsTrue (derived_variable.ghosts.eq a b) ↔ (a ≡ b)
variables-same a b = (
  λ e. let s = (variable-each a b).0 e in λ i. variable_of (s.0 i) (s.1 i),
  λ e. subst (λ (c : SystemVariable). derived_variable.ghosts.eq a c ≡ true) e ((variable-each a a).1 (refl, refl)),
)

pub lists-same : (xs ys : List SystemVariable) → IsTrue (pointwise derived_variable.ghosts.eq xs ys) ↔ (xs ≡ ys)
lists-same xs ys = slice_eq-Decides variables-same xs ys _ refl

text-same : {N R : Type 0} (a b : SessionText N R) → Decides (pointwise nat_eq a.0 b.0 && true) (a ≡ b)
text-same a b =
    let bytes = and-true _ (bytes-same a.0 b.0) in
    (λ e. let s = bytes.0 e in λ i. text_of (s i), λ e. bytes.1 (ap text_bytes e))

-- the test is true for a change and itself
change-equals-itself : (a : SessionStateChange) → IsTrue (derived.ghosts.eq a a)
change-equals-itself (change.IsTracked a) = (booleans_Decides a a).1 refl
change-equals-itself (change.Schema a) = (text-same a a).1 refl
change-equals-itself (change.SystemVariables a) = (lists-same a a).1 refl
change-equals-itself (change.Gtids a) = (text-same a a).1 refl
change-equals-itself (change.TransactionCharacteristics a) = (text-same a a).1 refl
change-equals-itself (change.TransactionState a) = (text-same a a).1 refl
change-equals-itself (change.Unsupported a) = (text-same a a).1 refl

-- and false for two changes that differ
equal-changes : (a b : SessionStateChange) → IsTrue (derived.ghosts.eq a b) → a ≡ b
equal-changes (change.IsTracked a) (change.IsTracked b) e = ap change.IsTracked ((booleans_Decides a b).0 e)
equal-changes (change.Schema a) (change.Schema b) e = ap change.Schema ((text-same a b).0 e)
equal-changes (change.SystemVariables a) (change.SystemVariables b) e = ap change.SystemVariables ((lists-same a b).0 e)
equal-changes (change.Gtids a) (change.Gtids b) e = ap change.Gtids ((text-same a b).0 e)
equal-changes (change.TransactionCharacteristics a) (change.TransactionCharacteristics b) e = ap change.TransactionCharacteristics ((text-same a b).0 e)
equal-changes (change.TransactionState a) (change.TransactionState b) e = ap change.TransactionState ((text-same a b).0 e)
equal-changes (change.Unsupported a) (change.Unsupported b) e = ap change.Unsupported ((text-same a b).0 e)
equal-changes _ _ e = absurd (clash e)

pub changes-same : (a b : SessionStateChange) → IsTrue (derived.ghosts.eq a b) ↔ (a ≡ b)
changes-same a b = (equal-changes a b, λ e. subst (λ (c : SessionStateChange). IsTrue (derived.ghosts.eq a c)) e (change-equals-itself a))

pub ruleset equal_changes = (variables-same, lists-same, changes-same)
