-- The attributes of a column, one after another.
use Rattle.std.specs.Prelude.{◌≡◌, ◌≢◌, ℕ, List, [], Option, Some, None, Result, Ok, Err, false}
use Rattle.mysql_wire.specs.declared.fault.FaultOf.{FaultOf}
use Rattle.mysql_wire.specs.Reading.{Faults}
use Rattle.mysql_replies.specs.ColumnAttribute.{column_attribute}
use Rattle.mysql_replies.specs.declared.column_attribute.ColumnAttribute.{ColumnAttribute}

-- the next attribute, or its fault, and the rest of the bytes: nothing after a fault
abbrev pub NextAttribute : List ℕ → Option (Result ColumnAttribute FaultOf) → List ℕ → Type 0
NextAttribute bytes None rest = (bytes ≡ []) × (rest ≡ [])
NextAttribute bytes (Some (Ok a)) rest = (bytes ≢ []) × ((column_attribute.form tt).reads bytes ≡ Ok (a, rest))
NextAttribute bytes (Some (Err fault)) rest = (bytes ≢ []) × Faults false fault ((column_attribute.form tt).reads bytes) × (rest ≡ [])
