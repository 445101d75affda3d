-- A change of the session's state.
use Rattle.std.specs.Prelude.{refl, ◌≡◌, ℕ, ◌<◌, ◌^◌, length, All, List, [], ◌∷◌, None, Bool, true, false, codes, nat_eq}
use Rattle.std.specs.Cmp.Lexicographic.{pointwise}
use Rattle.mysql_wire.specs.declared.codes.session_state_type.SessionStateType.{SessionStateType}
use Rattle.mysql_wire.specs.declared.codes.session_state_type.SessionStateType.TheVariants as kind
use Rattle.mysql_wire.specs.Form.{Form, map}
use Rattle.mysql_wire.specs.LenEnc.{lenenc_string, size-lenenc_string}
use Rattle.mysql_wire.specs.Many.{size-many}
use Rattle.mysql_session.specs.declared.session_state_change.SessionStateChange.{SessionStateChange}
use Rattle.mysql_session.specs.declared.session_state_change.SessionStateChange.TheVariants as change
use Rattle.mysql_session.specs.SessionText.{lenenc_text, gtids, text_bytes}
use Rattle.mysql_session.specs.SystemVariable.{SystemVariableFits}
use Rattle.mysql_session.specs.SystemVariables.{system_variables, begins_with_variable}

-- whether the content is `1`
abbrev pub is_tracked : List ℕ → SessionStateChange
is_tracked content = change.IsTracked (pointwise nat_eq content (codes "1"))

-- the data of each type
unfoldable pub session_state_change : SessionStateType → Form SessionStateChange
session_state_change kind.SESSION_TRACK_SYSTEM_VARIABLES = map change.SystemVariables (system_variables.form tt)
session_state_change kind.SESSION_TRACK_SCHEMA = map change.Schema (lenenc_text.form tt)
session_state_change kind.SESSION_TRACK_STATE_CHANGE = map is_tracked lenenc_string
session_state_change kind.SESSION_TRACK_GTIDS = map change.Gtids (gtids.form tt)
session_state_change kind.SESSION_TRACK_TRANSACTION_CHARACTERISTICS = map change.TransactionCharacteristics (lenenc_text.form tt)
session_state_change kind.SESSION_TRACK_TRANSACTION_STATE = map change.TransactionState (lenenc_text.form tt)

pub size-session_state_change : (k : SessionStateType) → (session_state_change k).size ≡ None
unfolding session_state_change lenenc_text gtids system_variables
size-session_state_change kind.SESSION_TRACK_SYSTEM_VARIABLES = size-many _
size-session_state_change kind.SESSION_TRACK_SCHEMA = refl
size-session_state_change kind.SESSION_TRACK_STATE_CHANGE = size-lenenc_string
size-session_state_change kind.SESSION_TRACK_GTIDS = refl
size-session_state_change kind.SESSION_TRACK_TRANSACTION_CHARACTERISTICS = refl
size-session_state_change kind.SESSION_TRACK_TRANSACTION_STATE = refl

-- whether the data begins with a system variable
abbrev pub lists_variables : SessionStateType → List ℕ → Bool
lists_variables kind.SESSION_TRACK_SYSTEM_VARIABLES bytes = begins_with_variable bytes
lists_variables kind.SESSION_TRACK_SCHEMA bytes = false
lists_variables kind.SESSION_TRACK_STATE_CHANGE bytes = false
lists_variables kind.SESSION_TRACK_GTIDS bytes = false
lists_variables kind.SESSION_TRACK_TRANSACTION_CHARACTERISTICS bytes = false
lists_variables kind.SESSION_TRACK_TRANSACTION_STATE bytes = false

-- the bytes of each type; `01 31` or `01 30` says whether changes are tracked
unfoldable pub session_state_change_bytes : SessionStateChange → List ℕ
session_state_change_bytes (change.IsTracked true) = 1 ∷ 49 ∷ []
session_state_change_bytes (change.IsTracked false) = 1 ∷ 48 ∷ []
session_state_change_bytes (change.Schema s) = lenenc_text.bytes s
session_state_change_bytes (change.SystemVariables vs) = system_variables.bytes vs
session_state_change_bytes (change.Gtids g) = gtids.bytes g
session_state_change_bytes (change.TransactionCharacteristics c) = lenenc_text.bytes c
session_state_change_bytes (change.TransactionState s) = lenenc_text.bytes s
session_state_change_bytes (change.Unsupported u) = lenenc_text.bytes u

-- The reader gets the type of the change. A change of another type is never read.
abbrev pub ChangeFits : SessionStateType → SessionStateChange → List ℕ → Type 0
ChangeFits k (change.IsTracked b) rest = k ≡ kind.SESSION_TRACK_STATE_CHANGE
ChangeFits k (change.Schema s) rest = (k ≡ kind.SESSION_TRACK_SCHEMA) × lenenc_text.fits tt s rest
ChangeFits k (change.SystemVariables vs) rest = (k ≡ kind.SESSION_TRACK_SYSTEM_VARIABLES) × system_variables.fits tt vs rest
ChangeFits k (change.Gtids g) rest = (k ≡ kind.SESSION_TRACK_GTIDS) × gtids.fits tt g rest
ChangeFits k (change.TransactionCharacteristics c) rest = (k ≡ kind.SESSION_TRACK_TRANSACTION_CHARACTERISTICS) × lenenc_text.fits tt c rest
ChangeFits k (change.TransactionState s) rest = (k ≡ kind.SESSION_TRACK_TRANSACTION_STATE) × lenenc_text.fits tt s rest
ChangeFits k (change.Unsupported u) rest = ⊥

-- ---- when a change is read back, in plain words

-- the type that the reader of this change gets; no reader takes a change of another type
abbrev pub IsOfKind : SessionStateType → SessionStateChange → Type 0
IsOfKind k (change.IsTracked b) = k ≡ kind.SESSION_TRACK_STATE_CHANGE
IsOfKind k (change.Schema s) = k ≡ kind.SESSION_TRACK_SCHEMA
IsOfKind k (change.SystemVariables vs) = k ≡ kind.SESSION_TRACK_SYSTEM_VARIABLES
IsOfKind k (change.Gtids g) = k ≡ kind.SESSION_TRACK_GTIDS
IsOfKind k (change.TransactionCharacteristics c) = k ≡ kind.SESSION_TRACK_TRANSACTION_CHARACTERISTICS
IsOfKind k (change.TransactionState s) = k ≡ kind.SESSION_TRACK_TRANSACTION_STATE
IsOfKind k (change.Unsupported u) = ⊥

-- the length of a length-encoded string is less than 2^64
abbrev pub ChangeIsShort : SessionStateChange → Type 0
ChangeIsShort (change.IsTracked b) = Unit {0}
ChangeIsShort (change.Schema s) = length (text_bytes s) < 2 ^ 64
ChangeIsShort (change.SystemVariables vs) = All SystemVariableFits vs
ChangeIsShort (change.Gtids g) = Unit {0}
ChangeIsShort (change.TransactionCharacteristics c) = length (text_bytes c) < 2 ^ 64
ChangeIsShort (change.TransactionState s) = length (text_bytes s) < 2 ^ 64
ChangeIsShort (change.Unsupported u) = length (text_bytes u) < 2 ^ 64

-- the change owns no memory: no byte of a text, and no variable
abbrev pub OwnsNothing : SessionStateChange → Type 0
OwnsNothing (change.IsTracked b) = Unit {0}
OwnsNothing (change.Schema s) = text_bytes s ≡ []
OwnsNothing (change.SystemVariables vs) = vs ≡ []
OwnsNothing (change.Gtids g) = text_bytes g ≡ []
OwnsNothing (change.TransactionCharacteristics c) = text_bytes c ≡ []
OwnsNothing (change.TransactionState s) = text_bytes s ≡ []
OwnsNothing (change.Unsupported u) = text_bytes u ≡ []
