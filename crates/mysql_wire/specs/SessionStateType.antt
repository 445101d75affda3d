-- Which part of a session's state has changed: written by tools/tables.py from tables/session_state_types.txt.
use Rattle.std.specs.Prelude.{◌≡◌, ℕ, List, [], ◌∷◌, Option, Some, refl}
use Rattle.mysql_wire.specs.declared.codes.session_state_type.SessionStateType.{SessionStateType}
use Rattle.mysql_wire.specs.declared.codes.session_state_type.SessionStateType.TheVariants as variant
use Rattle.mysql_wire.specs.declared.constant_value.Const.{Const}
use Rattle.mysql_wire.specs.Codes.{with_code, code-again}
use Rattle.mysql_wire.specs.ConstantValue.{coded}
use Rattle.mysql_wire.specs.Form.{Form, number}
use Rattle.mysql_wire.specs.Spelling.{IsSpelling}
use Rattle.mysql_wire.specs.Writing.{le_bytes}

unfoldable pub session_state_type_code : SessionStateType → ℕ
session_state_type_code variant.SESSION_TRACK_SYSTEM_VARIABLES = 0
session_state_type_code variant.SESSION_TRACK_SCHEMA = 1
session_state_type_code variant.SESSION_TRACK_STATE_CHANGE = 2
session_state_type_code variant.SESSION_TRACK_GTIDS = 3
session_state_type_code variant.SESSION_TRACK_TRANSACTION_CHARACTERISTICS = 4
session_state_type_code variant.SESSION_TRACK_TRANSACTION_STATE = 5

abbrev pub session_state_types : List SessionStateType
session_state_types =
    variant.SESSION_TRACK_SYSTEM_VARIABLES
    ∷ variant.SESSION_TRACK_SCHEMA
    ∷ variant.SESSION_TRACK_STATE_CHANGE
    ∷ variant.SESSION_TRACK_GTIDS
    ∷ variant.SESSION_TRACK_TRANSACTION_CHARACTERISTICS
    ∷ variant.SESSION_TRACK_TRANSACTION_STATE
    ∷ []

-- the type with this code
unfoldable pub session_state_type_of : ℕ → Option SessionStateType
session_state_type_of n = with_code session_state_type_code session_state_types n

pub session_state_type-back : (value : SessionStateType) → session_state_type_of (session_state_type_code value) ≡ Some value
unfolding session_state_type_code session_state_type_of
session_state_type-back variant.SESSION_TRACK_SYSTEM_VARIABLES = refl
session_state_type-back variant.SESSION_TRACK_SCHEMA = refl
session_state_type-back variant.SESSION_TRACK_STATE_CHANGE = refl
session_state_type-back variant.SESSION_TRACK_GTIDS = refl
session_state_type-back variant.SESSION_TRACK_TRANSACTION_CHARACTERISTICS = refl
session_state_type-back variant.SESSION_TRACK_TRANSACTION_STATE = refl

-- a byte that is a type's code
abbrev pub session_state_type : Form (Const SessionStateType ℕ)
session_state_type = coded session_state_type_of (number 1)

-- a type is read back
pub session_state_type-again : (v : Const SessionStateType ℕ) → IsSpelling session_state_type v (le_bytes 1 (session_state_type_code v.0))
unfolding session_state_type_code session_state_type_of
session_state_type-again v = code-again session_state_type_code session_state_types refl session_state_type-back v

pub ruleset session_state_type_again = (session_state_type-again)
