-- The codes that calls return.
use Rattle.std.specs.Prelude.{◌≡◌, ℕ, ◌==◌, List, Option, Some, None, Ok, Err, codes, if◌then◌else◌}
use Rattle.mysql_wire.specs.declared.fault.FaultKind.{FaultKind}
use Rattle.mysql_wire.specs.declared.fault.FaultKind.TheVariants as kind
use Rattle.mysql_wire.specs.declared.fault.FaultOf.{FaultOf}
use Rattle.mysql_wire.specs.declared.fault.FaultOf.TheVariants as fault
use Rattle.mysql_wire.specs.Reading.{Reading}
use Rattle.mysql_packets_c.specs.declared.text.CBytes.{CBytes}

abbrev pub fault_code : FaultOf → ℕ
fault_code fault.UnexpectedEof = 1
fault_code (fault.InvalidData text) = 2
fault_code (fault.InvalidInput text) = 3
fault_code fault.Memory = 4

-- the code of the first fault of some bytes
abbrev pub kind_code : FaultKind → ℕ
kind_code kind.UnexpectedEof = 1
kind_code kind.InvalidData = 2
kind_code kind.InvalidInput = 3
kind_code kind.Memory = 4

-- 0 if the bytes encode a value, whose fields are in the struct; otherwise the code of the first fault, and the struct is unchanged
abbrev pub ReadsInto : {A S : Type 0} → (A → List ℕ → S → Type 0) → Reading A → ℕ → S → S → Type 0
ReadsInto Holds (Ok x) code old new = (code ≡ 0) × Holds x.0 x.1 new
ReadsInto Holds (Err k) code old new = (code ≡ kind_code k) × (new ≡ old)

-- what a code means, in words
abbrev pub code_text : ℕ → Option (List ℕ)
code_text code =
    if code == 0 then Some (codes "success")
    else if code == 1 then Some (codes "the packet is truncated")
    else if code == 2 then Some (codes "the bytes are not a valid packet of this type")
    else if code == 3 then Some (codes "an argument fits no packet")
    else if code == 4 then Some (codes "the total length overflows size_t")
    else if code == 5 then Some (codes "the buffer is too small")
    else if code == 6 then Some (codes "a row is too large for a request")
    else if code == 7 then Some (codes "end of the list")
    else if code == 8 then Some (codes "the number is out of range")
    else if code == 9 then Some (codes "both sides agreed on compression")
    else if code == 10 then Some (codes "too many pipelined commands")
    else None

-- 0 and the text of a code; or 3, and the output is unchanged
abbrev pub TextInto : Option (List ℕ) → ℕ → CBytes → CBytes → Type 0
TextInto (Some text) answer old new = (answer ≡ 0) × (new.bytes.now ≡ text)
TextInto None answer old new = (answer ≡ 3) × (new ≡ old)
