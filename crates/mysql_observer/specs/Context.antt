-- The context in which a packet is read.
use Rattle.std.specs.Prelude.{◌≡◌, ℕ, List, Option, Some, None, Ok, Err}
use Rattle.mysql_wire.specs.declared.fault.FaultKind.TheVariants as fault
use Rattle.mysql_wire.specs.Form.{Form}
use Rattle.mysql_wire.specs.Reading.{Reading}
use Rattle.mysql_replies.specs.declared.session_capabilities.SessionCapabilities.{SessionCapabilities}

-- before the login nothing is agreed on
abbrev pub agreed_or_none : Option SessionCapabilities → SessionCapabilities
agreed_or_none (Some agreed) = agreed
agreed_or_none None = record { mysql = record { 0 = 0; 1 = record {} }; mariadb = record { 0 = 0; 1 = record {} } }

pub refused : {A : Type 0} {P : Type 0} (v : A) (bytes rest : List ℕ) → ◌≡◌ {A = Reading A} (Err fault.InvalidInput) (Ok (v, rest)) → P
refused v bytes rest e = absurd cc

-- a kind of the other side has no encoding
abbrev pub other_side : {A : Type 0} → Form A
other_side {A} = record {
  size = None;
  Spells = λ v bytes rest. ⊥;
  reads = λ bytes. Err fault.InvalidInput;
  found = λ v bytes rest e. refused v bytes rest e;
  only = λ v bytes rest s. absurd s;
  front = λ v bytes rest e. refused v bytes rest e;
  sized = tt;
}
