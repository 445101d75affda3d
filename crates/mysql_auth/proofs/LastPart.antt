-- A packet is read in two parts, the last of them by a reader of its own.
use Rattle.std.proofs.Common.{◌≡◌, ℕ, List, Ok, Err, Bool, false, refl}
use Rattle.mysql_wire.specs.declared.fault.FaultOf.{FaultOf}
use Rattle.mysql_wire.specs.Reading.{Reading, Faults, then_read}
use Rattle.mysql_wire.proofs.Refused.{fault-goes, fault-same}

-- one more part at the front
pub step : {A B C : Type 0} (read : Reading A) (front : A → List ℕ → Reading B) (last : B → List ℕ → Reading C) (whole : A → List ℕ → Reading C)
    → ((x : A) (rest : List ℕ) → whole x rest ≡ then_read (front x rest) last) → then_read read whole ≡ then_read (then_read read front) last
step (Ok x) front last whole h = h x.0 x.1
step (Err e) front last whole h = refl

-- a fault in the front part is the packet's
pub front-fault : {A B : Type 0} (takes_memory : Bool) (e : FaultOf) (read : Reading A) (next : A → List ℕ → Reading B) → Faults false e read → Faults takes_memory e (then_read read next)
front-fault takes_memory e read next h = fault-same takes_memory e read (then_read read next) (λ k h. rw h refl) h

-- a fault in the last part is the packet's too
pub last-fault : {A B : Type 0} (takes_memory : Bool) (e : FaultOf) (read : Reading A) (next : A → List ℕ → Reading B) → Faults takes_memory e read → Faults takes_memory e (then_read read next)
last-fault takes_memory e read next h = fault-goes takes_memory takes_memory e read (then_read read next) (λ m. m) (λ k h. rw h refl) h
