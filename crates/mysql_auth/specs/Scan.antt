-- The result of a scanner.
use Rattle.std.specs.Prelude.{◌≡◌, ℕ, List, Option, Some, None, Ok, Err}
use Rattle.mysql_wire.specs.declared.fault.FaultKind.TheVariants as kind
use Rattle.mysql_wire.specs.Reading.{Reading}

-- the value that is read, or nothing if the reader refuses
abbrev pub Scans : {A : Type 0} → Option (A × List ℕ) → Reading A → Type 0
Scans None read = read ≡ Err kind.InvalidData
Scans (Some found) read = read ≡ Ok found
