-- The refusal for a reading with a fault.
use Rattle.std.proofs.Common.{◌≡◌, ℕ, List, [], Bool}
use Rattle.mysql_wire.specs.declared.fault.FaultOf.{FaultOf}
use Rattle.mysql_wire.specs.declared.fault.FaultOf.TheVariants as fault
use Rattle.mysql_wire.specs.Reading.{Reading, Faults}
use Rattle.mysql_program.specs.Answer.{Answer, of_reading, IsFaultRefusal}

pub refused_reading : {A : Type 0} (takes_memory : Bool) (e : FaultOf) (lines : A → ℕ → List ℕ) (read : Reading A) (answer : Answer) → Faults takes_memory e read → IsFaultRefusal [] e answer → answer ≡ of_reading lines read
refused_reading takes_memory fault.Memory lines read answer e is = absurd is
refused_reading takes_memory _ lines read answer e is = rw e is

pub ruleset refusals = (refused_reading)
