-- When reading allocates.
use Rattle.std.proofs.Common.{◌≡◌, ℕ, ◌+◌, ◌<◌, zero, suc, List, [], ◌∷◌, length, get_or, Bool, true, Ok, Err, IsTrue, refl, arith, is_ok}
use Rattle.mysql_wire.specs.Reading.{Reading, Faults}
use Rattle.mysql_wire.specs.declared.fault.FaultOf.{FaultOf}
use Rattle.mysql_wire.specs.declared.fault.FaultOf.TheVariants as fault
use Rattle.mysql_bulk.specs.ParamValue.{ParamValue, param_has_bytes}
use Rattle.mysql_bulk.specs.ParamValues.{BulkColumn, value_of_column, reads_first}

-- a fault other than Memory says nothing about allocations
pub faults-where : {A : Type 0} (b : Bool) (e : FaultOf) (read : Reading A) → (e ≡ fault.Memory → IsTrue b) → Faults true e read → Faults b e read
faults-where b fault.Memory read memory h = memory refl
faults-where b e read memory h = h

pub memory-only : {A : Type 0} (b : Bool) (e : FaultOf) (read : Reading A) → Faults b e read → e ≡ fault.Memory → IsTrue b
memory-only b fault.Memory read h is = h
memory-only b e read h is = absurd cc

-- bytes that are present were read
pub there-read : (read : Reading ParamValue) → IsTrue (param_has_bytes read) → IsTrue (is_ok read)
there-read (Ok x) h = refl
there-read (Err e) h = absurd cc

-- a loop over the columns is at the first column, or has read the value before it
pub record FirstRead (columns : List BulkColumn) (i : ℕ) (rest start : List ℕ) : Type 0 where
  pub at_first : i ≡ 0 → rest ≡ start
  pub later : 0 < i → IsTrue (reads_first columns start)

pub first-read : (columns : List BulkColumn) (i : ℕ) (rest start : List ℕ) (d : BulkColumn) → i < length columns → FirstRead columns i rest start
    → IsTrue (is_ok ((value_of_column i (get_or columns i d)).reads rest)) → IsTrue (reads_first columns start)
first-read [] i rest start d lt at h = absurd (omega arith)
first-read (column ∷ columns) zero rest start d lt at h = rw (at.at_first refl) at h
first-read (column ∷ columns) (suc i) rest start d lt at h = at.later (omega arith)

pub next-read : (columns : List BulkColumn) (i : ℕ) (rest start after : List ℕ) → IsTrue (reads_first columns start) → FirstRead columns (i + 1) after start
next-read columns i rest start after h = record { at_first = λ e. absurd (omega (arith, e)); later = λ lt. h }
