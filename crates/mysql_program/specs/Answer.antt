-- The program's answers.
use Rattle.std.specs.Prelude.{◌≡◌, ℕ, List, [], ◌∷◌, ◌++◌, length, Ok, Err, codes}
use Rattle.mysql_wire.specs.declared.fault.FaultOf.{FaultOf}
use Rattle.mysql_wire.specs.declared.fault.FaultOf.TheVariants as fault
use Rattle.mysql_wire.specs.declared.fault.FaultKind.{FaultKind}
use Rattle.mysql_wire.specs.declared.fault.FaultKind.TheVariants as kind
use Rattle.mysql_wire.specs.Reading.{Reading}
use Rattle.mysql_show.specs.Fields.{said, Word}
use Rattle.mysql_show.specs.FieldText.{lines_of}
pub use Rattle.mysql_show.specs.Output.{Answer}

-- success
abbrev pub done : List ℕ → Answer
done lines = record { text = lines; status = 0 }

abbrev pub fault_name : FaultKind → List ℕ
fault_name kind.UnexpectedEof = codes "UnexpectedEof"
fault_name kind.InvalidData = codes "InvalidData"
fault_name kind.InvalidInput = codes "InvalidInput"
fault_name kind.Memory = codes "Memory"

-- the lines so far, and then an error with this name
abbrev pub refused_by : List ℕ → List ℕ → Answer
refused_by lines name = record { text = lines ++ lines_of (said (codes "refused") (Word name) ∷ []); status = 1 }

abbrev pub refused : List ℕ → FaultKind → Answer
refused lines k = refused_by lines (fault_name k)

-- the error for a fault; a failed allocation is another case
abbrev pub IsFaultRefusal : List ℕ → FaultOf → Answer → Type 0
IsFaultRefusal lines fault.UnexpectedEof answer = answer ≡ refused lines kind.UnexpectedEof
IsFaultRefusal lines (fault.InvalidData text) answer = answer ≡ refused lines kind.InvalidData
IsFaultRefusal lines (fault.InvalidInput text) answer = answer ≡ refused lines kind.InvalidInput
IsFaultRefusal lines fault.Memory answer = ⊥

-- a bad call
abbrev pub usage : Answer
usage = record { text = codes "usage: mypackets COMMAND ARGS\n"; status = 2 }

-- an allocation failed
abbrev pub out_of_memory : Answer
out_of_memory = record { text = codes "refused: Memory\n"; status = 1 }

-- the lines for the packet and the number of bytes after it, or the error
abbrev pub of_reading : {A : Type 0} → (A → ℕ → List ℕ) → Reading A → Answer
of_reading lines (Ok x) = done (lines x.0 (length x.1))
of_reading lines (Err k) = refused [] k
