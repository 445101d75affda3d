-- The bodies of OK packets, by kind.
use Rattle.std.specs.Prelude.{◌≡◌, ℕ, List, [], ◌∷◌, None, Bool, false, not, ◌&&◌, ◌==◌, refl}
use Rattle.mysql_wire.specs.CodecFits.{is_there}
use Rattle.mysql_wire.specs.FlagMasks.{CLIENT_SESSION_TRACK, SERVER_SESSION_STATE_CHANGED}
use Rattle.mysql_wire.specs.Flags.{CapabilityFlags, StatusFlags, has, flag_word}
use Rattle.mysql_wire.specs.declared.constant_value.Const.{Const}
use Rattle.mysql_wire.specs.declared.int.RawInt.{RawInt}
use Rattle.mysql_wire.specs.declared.lenenc.LenEnc.{LenEnc}
use Rattle.mysql_wire.specs.declared.little_endian.LeU16.{LeU16}
use Rattle.mysql_wire.specs.Form.{Form, ◌>>=◌, give, either, looking, block}
use Rattle.mysql_wire.specs.Int.{le_u16, raw}
use Rattle.mysql_wire.specs.LenEnc.{lenenc, lenenc_string}
use Rattle.mysql_replies.specs.declared.ok_kind.OkPacketBody.{OkPacketBody}

-- session changes are tracked
abbrev pub tracks : CapabilityFlags → Bool
tracks capabilities = has capabilities.0 CLIENT_SESSION_TRACK

-- the session state has changed
abbrev pub state_changed : StatusFlags → Bool
state_changed status = has status.0 SERVER_SESSION_STATE_CHANGED

-- there is a next byte, and it is not 0
abbrev pub begins_with_no_zero : List ℕ → Bool
begins_with_no_zero [] = false
begins_with_no_zero (b ∷ bytes) = not (b == 0)

-- the tail of a body
pub record OkTail : Type 0 where
  pub info : List ℕ
  pub session_state_info : List ℕ

abbrev pub tail_of : List ℕ → List ℕ → OkTail
tail_of info state = record { info = info; session_state_info = state }

-- If changes are tracked and bytes are left: the info, and the session state if the status says that it changed. Otherwise, if the next
-- byte exists and is not 0: the info. Otherwise nothing.
unfoldable pub ok_tail : CapabilityFlags → StatusFlags → Form OkTail
ok_tail capabilities status = looking (λ bytes.
    either (tracks capabilities && is_there bytes) (do
      info ← lenenc_string
      state ← either (state_changed status) lenenc_string (give [])
      give (tail_of info state))
    (either (begins_with_no_zero bytes) (do
      info ← lenenc_string
      give (tail_of info []))
    (give (tail_of [] []))))

pub size-ok_tail : (capabilities : CapabilityFlags) (status : StatusFlags) → (ok_tail capabilities status).size ≡ None
unfolding ok_tail
size-ok_tail capabilities status = refl

-- the body with these fields
abbrev pub body_of : ℕ → ℕ → StatusFlags → ℕ → List ℕ → List ℕ → OkPacketBody
body_of rows insert_id status warnings info state = record {
  affected_rows = rows;
  last_insert_id = insert_id;
  status_flags = status;
  warnings = warnings;
  info = info;
  session_state_info = state;
}

-- the status flags and the warning count, or in reverse order
abbrev pub status_and_warnings : Form (Const StatusFlags LeU16 × RawInt LeU16 ℕ)
status_and_warnings = do
  status ← flag_word 2
  warnings ← le_u16
  give (status, warnings)

abbrev pub warnings_and_status : Form (RawInt LeU16 ℕ × Const StatusFlags LeU16)
warnings_and_status = do
  warnings ← le_u16
  status ← flag_word 2
  give (warnings, status)

-- four bytes with status flags and warnings, and the tail
unfoldable pub ok_end : CapabilityFlags → ℕ → ℕ → Form OkPacketBody
ok_end capabilities rows insert_id = do
  numbers ← block 4 status_and_warnings
  tail ← ok_tail capabilities numbers.0.0
  give (body_of rows insert_id numbers.0.0 numbers.1.0 tail.info tail.session_state_info)

-- affected rows and last insert id, length-encoded, and the rest
abbrev pub common_ok_body : CapabilityFlags → Form OkPacketBody
common_ok_body capabilities = do
  rows ← raw {R = LenEnc} lenenc
  insert_id ← raw {R = LenEnc} lenenc
  ok_end capabilities rows.0 insert_id.0

-- the same layout, but both numbers are returned as 0
abbrev pub terminator_body : CapabilityFlags → Form OkPacketBody
terminator_body capabilities = do
  rows ← raw {R = LenEnc} lenenc
  insert_id ← raw {R = LenEnc} lenenc
  ok_end capabilities 0 0

-- four bytes with warnings and status flags
abbrev pub old_eof_body : CapabilityFlags → Form OkPacketBody
old_eof_body capabilities = do
  numbers ← block 4 warnings_and_status
  give (body_of 0 0 numbers.1.0 numbers.0.0 [] [])
