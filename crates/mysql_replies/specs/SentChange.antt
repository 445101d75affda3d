-- The entry of a session change as servers send it.
use Rattle.std.specs.Prelude.{◌≡◌, ◌<◌, ◌^◌, ℕ, length, List, [], ◌∷◌, Option, Some, None, true, false}
use Rattle.std.specs.Option.{option_map}
use Rattle.mysql_wire.specs.declared.codes.session_state_type.SessionStateType.{SessionStateType}
use Rattle.mysql_wire.specs.declared.codes.session_state_type.SessionStateType.TheVariants as kind
use Rattle.mysql_session.specs.SessionStateChange.{session_state_change_bytes, ChangeIsShort}
use Rattle.mysql_session.specs.SessionText.{text_bytes}
use Rattle.mysql_session.specs.declared.session_state_change.SessionStateChange.{SessionStateChange}
use Rattle.mysql_session.specs.declared.session_state_change.SessionStateChange.TheVariants as change
use Rattle.mysql_replies.specs.SentGtids.{sent_gtids, sent_text}
use Rattle.mysql_replies.specs.declared.session_state_info.SessionStateInfo.{SessionStateInfo}

-- the type of a change, if it is a known one
abbrev pub type_of : SessionStateChange → Option SessionStateType
type_of (change.IsTracked b) = Some kind.SESSION_TRACK_STATE_CHANGE
type_of (change.Schema s) = Some kind.SESSION_TRACK_SCHEMA
type_of (change.SystemVariables vs) = Some kind.SESSION_TRACK_SYSTEM_VARIABLES
type_of (change.Gtids g) = Some kind.SESSION_TRACK_GTIDS
type_of (change.TransactionCharacteristics c) = Some kind.SESSION_TRACK_TRANSACTION_CHARACTERISTICS
type_of (change.TransactionState s) = Some kind.SESSION_TRACK_TRANSACTION_STATE
type_of (change.Unsupported u) = None

-- the data: `31` or `30` for whether changes are tracked; for GTIDs the encoding before the text; otherwise the defined bytes
abbrev pub sent_data : SessionStateChange → List ℕ
sent_data (change.IsTracked true) = 49 ∷ []
sent_data (change.IsTracked false) = 48 ∷ []
sent_data (change.Schema s) = session_state_change_bytes (change.Schema s)
sent_data (change.SystemVariables vs) = session_state_change_bytes (change.SystemVariables vs)
sent_data (change.Gtids g) = sent_gtids.bytes (sent_text (text_bytes g))
sent_data (change.TransactionCharacteristics c) = session_state_change_bytes (change.TransactionCharacteristics c)
sent_data (change.TransactionState s) = session_state_change_bytes (change.TransactionState s)
sent_data (change.Unsupported u) = session_state_change_bytes (change.Unsupported u)

-- an entry with this type and data
abbrev pub info_of : SessionStateType → List ℕ → SessionStateInfo
info_of type content = record { data_type = record { 0 = type; 1 = record {} }; content = content }

-- the entry of a change, if its type is known
abbrev pub sent_info : SessionStateChange → Option SessionStateInfo
sent_info c = option_map (λ type. info_of type (sent_data c)) (type_of c)

-- when the entry of a change is read back: the length of a GTID text is below 2^64, too
abbrev pub SentIsShort : SessionStateChange → Type 0
SentIsShort (change.IsTracked b) = ChangeIsShort (change.IsTracked b)
SentIsShort (change.Schema s) = ChangeIsShort (change.Schema s)
SentIsShort (change.SystemVariables vs) = ChangeIsShort (change.SystemVariables vs)
SentIsShort (change.Gtids g) = length (text_bytes g) < 2 ^ 64
SentIsShort (change.TransactionCharacteristics c) = ChangeIsShort (change.TransactionCharacteristics c)
SentIsShort (change.TransactionState s) = ChangeIsShort (change.TransactionState s)
SentIsShort (change.Unsupported u) = ChangeIsShort (change.Unsupported u)

-- The entry of such a change needs no allocation: it is a static byte, or empty, or absent. A length-encoded text has at least its length
-- byte.
abbrev pub TakesNoMemory : SessionStateChange → Type 0
TakesNoMemory (change.IsTracked b) = Unit {0}
TakesNoMemory (change.Schema s) = ⊥
TakesNoMemory (change.SystemVariables vs) = vs ≡ []
TakesNoMemory (change.Gtids g) = ⊥
TakesNoMemory (change.TransactionCharacteristics c) = ⊥
TakesNoMemory (change.TransactionState s) = ⊥
TakesNoMemory (change.Unsupported u) = Unit {0}
