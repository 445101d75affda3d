-- The entries of a session state.
use Rattle.std.specs.Prelude.{ℕ, List, [], Ok, Err, Bool, false, refl}
use Rattle.mysql_wire.specs.declared.codes.session_state_type.SessionStateType.{SessionStateType}
use Rattle.mysql_wire.specs.Codecs.{Codec, Fields, ◌>>=◌, give, field, packet, coded, string_lenenc}
use Rattle.mysql_wire.specs.Form.{Form}
use Rattle.mysql_wire.specs.Many.{many, many_asks}
use Rattle.mysql_wire.specs.Reading.{Reading}
use Rattle.mysql_wire.specs.SessionStateType.{session_state_type_code, session_state_type_of, session_state_type-again}
use Rattle.mysql_session.specs.SessionStateChange.{session_state_change}
use Rattle.mysql_session.specs.declared.session_state_change.SessionStateChange.{SessionStateChange}
use Rattle.mysql_replies.specs.declared.session_state_info.SessionStateInfo.{SessionStateInfo}

-- the type of the change, and the bytes of its data
abbrev pub data_type : SessionStateInfo → SessionStateType
data_type i = i.data_type.0

abbrev pub data_bytes : SessionStateInfo → List ℕ
data_bytes i = i.content

-- the type in one byte, and the data, length-encoded
abbrev pub session_state_info_fields : Fields (Unit {0}) SessionStateInfo SessionStateInfo
session_state_info_fields = do
  data_type ← field (λ i. i.data_type) (coded session_state_type_code session_state_type_of session_state_type-again)
  content ← field data_bytes string_lenenc
  give (record { data_type = data_type; content = content })

unfoldable pub session_state_info : Codec (Unit {0}) SessionStateInfo
session_state_info = packet session_state_info_fields (λ i. refl)

-- a session state: entries up to the end
abbrev pub state_string : Form (List SessionStateInfo)
state_string = many (session_state_info.form tt)

-- whether the bytes begin with an entry: no list is allocated before one is read
abbrev pub begins_with_entry : List ℕ → Bool
begins_with_entry = many_asks (λ _. false) (session_state_info.form tt)

-- what was read at the front, without the bytes after it
abbrev pub front_of : {A : Type 0} → Reading A → Reading A
front_of (Ok x) = Ok (x.0, [])
front_of (Err kind) = Err kind

-- the change at the beginning of the data
abbrev pub decoded : SessionStateInfo → Reading SessionStateChange
decoded i = front_of ((session_state_change (data_type i)).reads (data_bytes i))
