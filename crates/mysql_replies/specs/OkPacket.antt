-- OK packets.
use Rattle.std.specs.Prelude.{◌≡◌, ℕ, zero, suc, List, [], ◌∷◌, Option, Some, None, ◌==◌, refl}
use Rattle.mysql_wire.specs.Flags.{StatusFlags}
use Rattle.mysql_wire.specs.Form.{Form, ◌>>=◌, give, either, refuse}
use Rattle.mysql_wire.specs.Int.{byte}
use Rattle.mysql_replies.specs.declared.ok_kind.OkPacketBody.{OkPacketBody}
use Rattle.mysql_replies.specs.declared.ok_packet.OkPacket.{OkPacket}
use Rattle.mysql_replies.specs.declared.ok_packet.OkPacketDeserializer.{OkPacketDeserializer}

-- affected rows, last insert id, status flags, warnings, the bytes of the info and of the session state
abbrev pub affected_rows : OkPacket → ℕ
affected_rows p = p.affected_rows

abbrev pub last_insert_id : OkPacket → Option ℕ
last_insert_id p = p.last_insert_id

abbrev pub status_flags : OkPacket → StatusFlags
status_flags p = p.status_flags

abbrev pub warnings : OkPacket → ℕ
warnings p = p.warnings

abbrev pub info : OkPacket → Option (List ℕ)
info p = p.info

abbrev pub session_state : OkPacket → Option (List ℕ)
session_state p = p.session_state_info

-- the session state and the info, empty if absent
abbrev pub bytes_or_none : Option (List ℕ) → List ℕ
bytes_or_none None = []
bytes_or_none (Some bytes) = bytes

abbrev pub state_bytes : OkPacket → List ℕ
state_bytes p = bytes_or_none (session_state p)

abbrev pub info_bytes : OkPacket → List ℕ
info_bytes p = bytes_or_none (info p)

abbrev pub unless_zero : ℕ → Option ℕ
unless_zero zero = None
unless_zero (suc n) = Some (suc n)

abbrev pub unless_empty : List ℕ → Option (List ℕ)
unless_empty [] = None
unless_empty (b ∷ bytes) = Some (b ∷ bytes)

-- the packet with this body: a last insert id of 0, an empty info and an empty session state count as absent
abbrev pub packet_of : OkPacketBody → OkPacket
packet_of b = record {
  affected_rows = b.affected_rows;
  last_insert_id = unless_zero b.last_insert_id;
  status_flags = b.status_flags;
  warnings = b.warnings;
  info = unless_empty b.info;
  session_state_info = unless_empty b.session_state_info;
}

-- the packet
abbrev pub packet : {T : Type 0} → OkPacketDeserializer T → OkPacket
packet d = d.0

abbrev pub deserialized : {T : Type 0} → OkPacketBody → OkPacketDeserializer T
deserialized body = record { 0 = packet_of body; 1 = record {} }

-- the header
unfoldable pub ok_header : ℕ → Form (Unit {0})
ok_header header = do
  first ← byte
  either (first.0 == header) (give tt) refuse

-- header and body
unfoldable pub ok_packet : {T : Type 0} → ℕ → Form OkPacketBody → Form (OkPacketDeserializer T)
ok_packet header body = do
  first ← ok_header header
  b ← body
  give (deserialized b)

pub size-ok_packet : (T : Type 0) (header : ℕ) (body : Form OkPacketBody) → (ok_packet {T = T} header body).size ≡ None
unfolding ok_packet
size-ok_packet T header body = refl
