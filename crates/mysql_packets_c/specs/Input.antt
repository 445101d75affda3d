-- What is read of a packet, and the number of its bytes.
use Rattle.std.specs.Prelude.{◌≡◌, ◌-◌, ℕ, List, length, Bool, Result, Ok, Err}
use Rattle.mysql_wire.specs.declared.fault.FaultOf.{FaultOf}
use Rattle.mysql_frames.specs.Places.{at}
use Rattle.mysql_wire.specs.Reading.{Reading, Faults}
use Rattle.mysql_packets_c.specs.declared.text.CBytes.{CBytes}

-- the number of consumed bytes, when these are left
abbrev pub used_of : List ℕ → List ℕ → ℕ
used_of packet rest = length packet - length rest

-- the value and the number of its bytes, or the first fault
abbrev pub ReadsWhole : {A : Type 0} → Bool → List ℕ → Result (A × ℕ) FaultOf → Reading A → Type 0
ReadsWhole takes_memory packet (Ok x) read = (rest : List ℕ) × (read ≡ Ok (x.0, rest)) × (x.1 ≡ used_of packet rest)
ReadsWhole takes_memory packet (Err e) read = Faults takes_memory e read

-- a packet without fields has a fixed size
abbrev pub IsUsed : {A : Type 0} → List ℕ → A → List ℕ → ℕ → Type 0
IsUsed packet value rest used = used ≡ used_of packet rest

-- the rest is the part of the bytes themselves after those that are taken
abbrev pub IsRestOf : CBytes → CBytes → Type 0
IsRestOf rest whole = rest.bytes.ref_ptr ≡ at (used_of whole.bytes.now rest.bytes.now) whole.bytes.ref_ptr
