-- A session change and a system variable, in C.
use Rattle.std.specs.Prelude.{◌≡◌, ℕ, List, [], if◌then◌else◌, Ok, Err}
use Rattle.mysql_wire.specs.Reading.{Reading}
use Rattle.mysql_wire.specs.SessionStateType.{session_state_type_code}
use Rattle.mysql_wire.specs.declared.codes.session_state_type.SessionStateType.{SessionStateType}
use Rattle.mysql_wire.specs.declared.codes.session_state_type.SessionStateType.TheVariants as type
use Rattle.mysql_replies.specs.SessionStateChanges.{decoded_as_sent}
use Rattle.mysql_replies.specs.SessionStateInfo.{session_state_info, data_type, data_bytes}
use Rattle.mysql_replies.specs.declared.session_state_info.SessionStateInfo.{SessionStateInfo}
use Rattle.mysql_session.specs.SessionText.{text_bytes}
use Rattle.mysql_session.specs.SystemVariable.{variable_name, variable_value}
use Rattle.mysql_session.specs.declared.session_state_change.SessionStateChange.{SessionStateChange}
use Rattle.mysql_session.specs.declared.session_state_change.SessionStateChange.TheVariants as change
use Rattle.mysql_session.specs.declared.system_variable.SystemVariable.{SystemVariable}
use Rattle.mysql_packets_c.specs.Code.{kind_code}
use Rattle.mysql_packets_c.specs.declared.session_change.CChange.{CChange}
use Rattle.mysql_packets_c.specs.declared.text.CBytes.{CBytes}

-- 0 if the bytes begin with a value, whose fields are in the output, and the rest is left; otherwise the code of the first fault, and both
-- are unchanged
abbrev pub NextInto : {A S : Type 0} → (A → S → Type 0) → Reading A → ℕ → CBytes → CBytes → S → S → Type 0
NextInto Holds (Ok x) code rest_old rest old new = (code ≡ 0) × (rest.bytes.now ≡ x.1) × Holds x.0 new
NextInto Holds (Err k) code rest_old rest old new = (code ≡ kind_code k) × (rest ≡ rest_old) × (new ≡ old)

-- an entry, and the change in its data
abbrev pub Entry : Type 0
Entry = SessionStateInfo × SessionStateChange

-- the change, before these bytes
abbrev pub with_change : SessionStateInfo → List ℕ → Reading SessionStateChange → Reading Entry
with_change info rest (Ok x) = Ok ((info, x.0), rest)
with_change info rest (Err k) = Err k

abbrev pub entry_of : Reading SessionStateInfo → Reading Entry
entry_of (Ok x) = with_change x.0 x.1 (decoded_as_sent x.0)
entry_of (Err k) = Err k

-- the entry at the beginning of the bytes, and its change in the layouts that servers send; the first fault of both
abbrev pub entry_in : List ℕ → Reading Entry
entry_in bytes = entry_of ((session_state_info.form tt).reads bytes)

-- the text of a change: empty if it has none
abbrev pub change_text : SessionStateChange → List ℕ
change_text (change.IsTracked b) = []
change_text (change.Schema s) = text_bytes s
change_text (change.SystemVariables vs) = []
change_text (change.Gtids g) = text_bytes g
change_text (change.TransactionCharacteristics c) = text_bytes c
change_text (change.TransactionState s) = text_bytes s
change_text (change.Unsupported u) = []

-- whether changes are tracked
abbrev pub tracked : SessionStateChange → ℕ
tracked (change.IsTracked b) = if b then 1 else 0
tracked (change.Schema s) = 0
tracked (change.SystemVariables vs) = 0
tracked (change.Gtids g) = 0
tracked (change.TransactionCharacteristics c) = 0
tracked (change.TransactionState s) = 0
tracked (change.Unsupported u) = 0

-- the data if it is a list of variables
abbrev pub variables_of : SessionStateType → List ℕ → List ℕ
variables_of type.SESSION_TRACK_SYSTEM_VARIABLES bytes = bytes
variables_of type.SESSION_TRACK_SCHEMA bytes = []
variables_of type.SESSION_TRACK_STATE_CHANGE bytes = []
variables_of type.SESSION_TRACK_GTIDS bytes = []
variables_of type.SESSION_TRACK_TRANSACTION_CHARACTERISTICS bytes = []
variables_of type.SESSION_TRACK_TRANSACTION_STATE bytes = []

pub record IsChange (entry : Entry) (out : CChange) : Type 0 where
  pub change_type : out.change_type ≡ session_state_type_code (data_type entry.0)
  pub content : out.content.now ≡ data_bytes entry.0
  pub text : out.text.now ≡ change_text entry.1
  pub variables : out.variables.now ≡ variables_of (data_type entry.0) (data_bytes entry.0)
  pub is_tracked : out.is_tracked ≡ tracked entry.1

-- the places of the name and of the value
pub record IsVariable (v : SystemVariable) (places : CBytes × CBytes) : Type 0 where
  pub name : places.0.bytes.now ≡ variable_name v
  pub value : places.1.bytes.now ≡ variable_value v
