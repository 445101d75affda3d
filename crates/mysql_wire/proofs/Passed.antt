-- A given number of values that are passed in a loop, which only tells whether they are present.
use Rattle.std.proofs.Common.{◌≡◌, ℕ, suc, ◌+◌, ◌-◌, ◌<◌, List, ◌∷◌, Ok, Err, false, refl, sym, ap, ◌∙◌, arith}
use Rattle.mysql_wire.specs.declared.fault.FaultOf.{FaultOf}
use Rattle.mysql_wire.specs.declared.fault.FaultKind.{FaultKind}
use Rattle.mysql_wire.specs.Form.{Form}
use Rattle.mysql_wire.specs.Reading.{Reading, Faults, then_read}
use Rattle.mysql_wire.specs.Seq.{counted}
use Rattle.mysql_wire.proofs.Refused.{fault-same}

abbrev pub passed : {A : Type 0} → Reading A → Reading (Unit {0})
passed r = then_read r (λ x rest. Ok (tt, rest))

-- the fault of passing values is that of reading them
pub same-kind : {A : Type 0} (r : Reading A) (k : FaultKind) → passed r ≡ Err k → r ≡ Err k
same-kind (Ok x) k h = absurd cc
same-kind (Err d) k h = let same : d ≡ k = cc in ap (λ (x : FaultKind). Err x) same

pub passed-fault : {A : Type 0} (r : Reading A) (e : FaultOf) → Faults false e (passed r) → Faults false e r
passed-fault r e h = fault-same false e (passed r) r (same-kind r) h

pushed : {A : Type 0} (x : A) (r : Reading (List A)) → passed (then_read r (λ xs rest. Ok (x ∷ xs, rest))) ≡ passed r
pushed x (Ok y) = refl
pushed x (Err e) = refl

abbrev pub left_to_pass : {A : Type 0} → Form A → ℕ → List ℕ → Reading (Unit {0})
left_to_pass f count bytes = passed ((counted count f).reads bytes)

one-passed : {A : Type 0} (f : Form A) (count : ℕ) (bytes : List ℕ) (x : A) (mid : List ℕ) → f.reads bytes ≡ Ok (x, mid) → left_to_pass f (suc count) bytes ≡ left_to_pass f count mid
unfolding counted
one-passed f count bytes x mid h = rw h (pushed x ((counted count f).reads mid))

none-passed : {A : Type 0} (f : Form A) (count : ℕ) (bytes : List ℕ) (e : FaultKind) → f.reads bytes ≡ Err e → left_to_pass f (suc count) bytes ≡ Err e
unfolding counted
none-passed f count bytes e h = rw h refl

all-passed : {A : Type 0} (f : Form A) (bytes : List ℕ) → left_to_pass f 0 bytes ≡ Ok (tt, bytes)
unfolding counted
all-passed f bytes = refl

pub skip-next : {A : Type 0} (f : Form A) (count i : ℕ) (bytes mid : List ℕ) (x : A) (all : Reading (Unit {0})) → i < count → f.reads bytes ≡ Ok (x, mid)
    → left_to_pass f (count - i) bytes ≡ all → left_to_pass f (count - (i + 1)) mid ≡ all
skip-next f count i bytes mid x all lt h r =
    let e : count - i ≡ suc (count - (i + 1)) = omega (arith, lt) in
    sym (one-passed f (count - (i + 1)) bytes x mid h) ∙ sym (ap (λ (n : ℕ). left_to_pass f n bytes) e) ∙ r

refused-at : {A : Type 0} (f : Form A) (count i : ℕ) (bytes : List ℕ) (e : FaultKind) (all : Reading (Unit {0})) → i < count → f.reads bytes ≡ Err e → left_to_pass f (count - i) bytes ≡ all → all ≡ Err e
refused-at f count i bytes e all lt h r =
    let s : count - i ≡ suc (count - (i + 1)) = omega (arith, lt) in
    sym r ∙ ap (λ (n : ℕ). left_to_pass f n bytes) s ∙ none-passed f (count - (i + 1)) bytes e h

pub skip-fails : {A : Type 0} (f : Form A) (count i : ℕ) (bytes : List ℕ) (e : FaultOf) (all : Reading (Unit {0})) → i < count → Faults false e (f.reads bytes)
    → left_to_pass f (count - i) bytes ≡ all → Faults false e all
skip-fails f count i bytes e all lt h r = fault-same false e (f.reads bytes) all (λ k h. refused-at f count i bytes k all lt h r) h

pub skip-done : {A : Type 0} (f : Form A) (count i : ℕ) (bytes : List ℕ) (all : Reading (Unit {0})) → count - i ≡ 0 → left_to_pass f (count - i) bytes ≡ all → all ≡ Ok (tt, bytes)
skip-done f count i bytes all none r = sym r ∙ ap (λ (n : ℕ). left_to_pass f n bytes) none ∙ all-passed f bytes
