-- A fault of one reading is that of another, kind by kind.
use Rattle.std.proofs.Common.{◌≡◌, List, ℕ, Bool, false, IsTrue, Ok, Err, sym, ◌∙◌}
use Rattle.mysql_wire.specs.declared.fault.FaultOf.{FaultOf}
use Rattle.mysql_wire.specs.declared.fault.FaultOf.TheVariants as fault
use Rattle.mysql_wire.specs.declared.fault.FaultKind.{FaultKind}
use Rattle.mysql_wire.specs.Reading.{Reading, Faults}

-- the other may run out of memory whenever this one may
pub fault-goes : {A B : Type 0} (b asks : Bool) (e : FaultOf) (read : Reading A) (other : Reading B) → (IsTrue b → IsTrue asks)
    → ((k : FaultKind) → read ≡ Err k → other ≡ Err k) → Faults b e read → Faults asks e other
fault-goes b asks fault.Memory read other may same h = may h
fault-goes b asks fault.UnexpectedEof read other may same h = same _ h
fault-goes b asks (fault.InvalidData text) read other may same h = same _ h
fault-goes b asks (fault.InvalidInput text) read other may same h = same _ h

-- this one takes no memory
pub fault-same : {A B : Type 0} (asks : Bool) (e : FaultOf) (read : Reading A) (other : Reading B) → ((k : FaultKind) → read ≡ Err k → other ≡ Err k) → Faults false e read → Faults asks e other
fault-same asks e read other same h = fault-goes false asks e read other (λ never. absurd cc) same h

-- its kind
pub kind-in : {A : Type 0} (e : FaultOf) (read : Reading A) → Faults false e read → (k : FaultKind) × (read ≡ Err k)
kind-in fault.Memory read h = absurd cc
kind-in fault.UnexpectedEof read h = (_, h)
kind-in (fault.InvalidData text) read h = (_, h)
kind-in (fault.InvalidInput text) read h = (_, h)

-- what has a value has no fault
pub no-fault : {A : Type 0} (e : FaultOf) (read : Reading A) (x : A) (rest : List ℕ) → read ≡ Ok (x, rest) → Faults false e read → ⊥
no-fault {A} e read x rest is h =
    let k = kind-in e read h in
    let same : ◌≡◌ {A = Reading A} (Ok (x, rest)) (Err k.0) = sym is ∙ k.1 in
    absurd cc
