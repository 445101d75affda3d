-- The session changes of an OK packet, as fields.
use Rattle.std.specs.Prelude.{◌≡◌, ℕ, List, [], ◌∷◌, ◌++◌, Some, Result, Ok, Err, codes}
use Rattle.mysql_wire.specs.declared.fault.FaultOf.{FaultOf}
use Rattle.mysql_session.specs.SessionText.{text_bytes}
use Rattle.mysql_session.specs.SystemVariable.{variable_name, variable_value}
use Rattle.mysql_session.specs.declared.session_state_change.SessionStateChange.{SessionStateChange}
use Rattle.mysql_session.specs.declared.session_state_change.SessionStateChange.TheVariants as change
use Rattle.mysql_session.specs.declared.system_variable.SystemVariable.{SystemVariable}
use Rattle.mysql_replies.specs.OkPacket.{state_bytes}
use Rattle.mysql_replies.specs.SessionStateChangesRef.{NextChangeRef}
use Rattle.mysql_replies.specs.declared.ok_packet.OkPacket.{OkPacket}
use Rattle.mysql_show.specs.Fields.{Said, said, Bytes, Flag, Word}
use Rattle.mysql_recorder.specs.ValueFields.{fault_text}

abbrev pub variable_fields : List SystemVariable → List Said
variable_fields [] = []
variable_fields (v ∷ others) = said (codes "variable") (Bytes (variable_name v)) ∷ said (codes "variable_value") (Bytes (variable_value v)) ∷ variable_fields others

-- the fields of a change; no server's change is read as `Unsupported`
abbrev pub change_fields : SessionStateChange → List Said
change_fields (change.IsTracked is_tracked) = said (codes "state_changed") (Flag is_tracked) ∷ []
change_fields (change.Schema schema) = said (codes "schema") (Bytes (text_bytes schema)) ∷ []
change_fields (change.SystemVariables variables) = variable_fields variables
change_fields (change.Gtids gtids) = said (codes "gtids") (Bytes (text_bytes gtids)) ∷ []
change_fields (change.TransactionCharacteristics statements) = said (codes "transaction_characteristics") (Bytes (text_bytes statements)) ∷ []
change_fields (change.TransactionState state) = said (codes "transaction_state") (Bytes (text_bytes state)) ∷ []
change_fields (change.Unsupported other) = []

-- a change, or its fault
abbrev pub Change : Type 0
Change = Result SessionStateChange FaultOf

abbrev pub read_fields : Change → List Said
read_fields (Ok change) = change_fields change
read_fields (Err fault) = said (codes "refused") (Word (fault_text fault)) ∷ []

abbrev pub changes_fields : List Change → List Said
changes_fields [] = []
changes_fields (c ∷ others) = read_fields c ++ changes_fields others

-- the changes that are read from these bytes, one by one, up to this rest
abbrev pub AreChanges : (bytes rest : List ℕ) → List Change → Type 0
AreChanges bytes rest [] = bytes ≡ rest
AreChanges bytes rest (c ∷ others) = (after : List ℕ) × NextChangeRef bytes (Some c) after × AreChanges after rest others

-- the changes of an OK packet are appended
abbrev pub AppendsChanges : OkPacket → (old new : List Said) → Type 0
AppendsChanges ok old new = (changes : List Change) × AreChanges (state_bytes ok) [] changes × (new ≡ old ++ changes_fields changes)
