-- The session's changes, in order, in the layouts that servers send.
use Rattle.std.specs.Prelude.{◌≡◌, ◌≢◌, ℕ, List, [], ◌∷◌, length, Option, Some, None, Result, Ok, Err, Bool, true, false, ◌&&◌, ◌==◌, if◌then◌else◌}
use Rattle.mysql_wire.specs.declared.codes.session_state_type.SessionStateType.{SessionStateType}
use Rattle.mysql_wire.specs.declared.codes.session_state_type.SessionStateType.TheVariants as kind
use Rattle.mysql_wire.specs.declared.fault.FaultOf.{FaultOf}
use Rattle.mysql_wire.specs.LenEnc.{lenenc_string}
use Rattle.mysql_wire.specs.Reading.{Reading, Answers, Faults}
use Rattle.mysql_session.specs.SessionStateChange.{session_state_change, is_tracked, lists_variables}
use Rattle.mysql_session.specs.SessionText.{text_of}
use Rattle.mysql_session.specs.declared.session_state_change.SessionStateChange.{SessionStateChange}
use Rattle.mysql_session.specs.declared.session_state_change.SessionStateChange.TheVariants as change
use Rattle.mysql_replies.specs.declared.sent_gtids.SentGtids.{SentGtids}
use Rattle.mysql_replies.specs.declared.session_state_info.SessionStateInfo.{SessionStateInfo}
use Rattle.mysql_replies.specs.SentGtids.{sent_gtids, gtids_text}
use Rattle.mysql_replies.specs.SessionStateInfo.{session_state_info, data_type, data_bytes, front_of}

abbrev pub is_state_change : SessionStateType → Bool
is_state_change kind.SESSION_TRACK_STATE_CHANGE = true
is_state_change kind.SESSION_TRACK_SYSTEM_VARIABLES = false
is_state_change kind.SESSION_TRACK_SCHEMA = false
is_state_change kind.SESSION_TRACK_GTIDS = false
is_state_change kind.SESSION_TRACK_TRANSACTION_CHARACTERISTICS = false
is_state_change kind.SESSION_TRACK_TRANSACTION_STATE = false

abbrev pub is_gtids : SessionStateType → Bool
is_gtids kind.SESSION_TRACK_GTIDS = true
is_gtids kind.SESSION_TRACK_SYSTEM_VARIABLES = false
is_gtids kind.SESSION_TRACK_SCHEMA = false
is_gtids kind.SESSION_TRACK_STATE_CHANGE = false
is_gtids kind.SESSION_TRACK_TRANSACTION_CHARACTERISTICS = false
is_gtids kind.SESSION_TRACK_TRANSACTION_STATE = false

-- the reader's answer; if it refuses, a single byte is the truth value
abbrev pub sent_unless_read : Bool → List ℕ → Reading SessionStateChange → Reading SessionStateChange
sent_unless_read one bytes (Ok x) = Ok x
sent_unless_read true bytes (Err kind) = Ok (is_tracked bytes, [])
sent_unless_read false bytes (Err kind) = Err kind

-- the GTIDs that were read, without the bytes after them
abbrev pub gtids_of : Reading SentGtids → Reading SessionStateChange
gtids_of (Ok x) = Ok (change.Gtids (text_of (gtids_text x.0)), [])
gtids_of (Err kind) = Err kind

-- the change at the beginning of data of this type, or the state change that a single byte is; GTIDs have an encoding before their text
abbrev pub change_as_sent : SessionStateType → List ℕ → Reading SessionStateChange
change_as_sent type bytes =
    if is_gtids type then gtids_of ((sent_gtids.form tt).reads bytes)
    else sent_unless_read (is_state_change type && (length bytes == 1)) bytes (front_of ((session_state_change type).reads bytes))

abbrev pub decoded_as_sent : SessionStateInfo → Reading SessionStateChange
decoded_as_sent i = change_as_sent (data_type i) (data_bytes i)

-- the rest after an entry of any type: nothing if the entry is cut off
abbrev pub rest_of : {A : Type 0} → Reading A → List ℕ
rest_of (Ok x) = x.1
rest_of (Err kind) = []

abbrev pub after_entry : List ℕ → List ℕ
after_entry [] = []
after_entry (type ∷ bytes) = rest_of (lenenc_string.reads bytes)

-- the next entry, or its fault, and the rest of the bytes: after a fault the rest after an entry of any type
abbrev pub NextEntry : List ℕ → Option (Result SessionStateInfo FaultOf) → List ℕ → Type 0
NextEntry bytes None rest = (bytes ≡ []) × (rest ≡ [])
NextEntry bytes (Some (Ok i)) rest = (bytes ≢ []) × ((session_state_info.form tt).reads bytes ≡ Ok (i, rest))
NextEntry bytes (Some (Err fault)) rest = (bytes ≢ []) × Faults false fault ((session_state_info.form tt).reads bytes) × (rest ≡ after_entry bytes)

-- the answer for an entry that was read, with the rest after it; or its fault, and the rest after an entry of any type
abbrev pub ChangeOf : (SessionStateInfo → Bool) → List ℕ → Reading SessionStateInfo → Result SessionStateChange FaultOf → List ℕ → Type 0
ChangeOf takes_memory bytes (Ok x) r rest = Answers (takes_memory x.0) r [] (decoded_as_sent x.0) × (rest ≡ x.1)
ChangeOf takes_memory bytes (Err kind) (Ok change) rest = ⊥
ChangeOf takes_memory bytes (Err kind) (Err fault) rest = Faults {A = SessionStateInfo} false fault (Err kind) × (rest ≡ after_entry bytes)

-- the next change and the rest of the bytes; the predicate tells which entries take memory
abbrev pub NextOf : (SessionStateInfo → Bool) → List ℕ → Option (Result SessionStateChange FaultOf) → List ℕ → Type 0
NextOf takes_memory bytes None rest = (bytes ≡ []) × (rest ≡ [])
NextOf takes_memory bytes (Some r) rest = (bytes ≢ []) × ChangeOf takes_memory bytes ((session_state_info.form tt).reads bytes) r rest

-- `next_change`, where a list of system variables takes memory
abbrev pub NextChange : List ℕ → Option (Result SessionStateChange FaultOf) → List ℕ → Type 0
NextChange bytes r rest = NextOf (λ i. lists_variables (data_type i) (data_bytes i)) bytes r rest
