-- A reader that doesn't allocate returns the fault of the form.
use Rattle.std.proofs.Common.{◌≡◌, ℕ, false, ap}
use Rattle.mysql_wire.specs.Reading.{Reading, Faults}
use Rattle.mysql_wire.specs.declared.fault.FaultOf.{FaultOf}
use Rattle.mysql_wire.specs.declared.fault.FaultOf.TheVariants as fault
use Rattle.mysql_observer.specs.Event.{Marks, header_in}

pub header_fault : (n : ℕ) (e : FaultOf) (read : Reading Marks) → Faults false e read → header_in n read ≡ false
header_fault n fault.Memory read h = absurd cc
header_fault n _ read h = ap (header_in n) h
