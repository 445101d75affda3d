-- An OK packet, in C.
use Rattle.std.specs.Option.{unwrap_or}
use Rattle.std.specs.Prelude.{◌≡◌, ℕ, Bool, not, ◌&&◌, nat_lt, List, length}
use Rattle.mysql_wire.specs.FlagMasks.{CLIENT_SESSION_TRACK, SERVER_SESSION_STATE_CHANGED}
use Rattle.mysql_replies.specs.OkKind.{common_ok_body, terminator_body, old_eof_body, body_of}
use Rattle.mysql_replies.specs.OkPacket as ok
use Rattle.mysql_replies.specs.OkPacket.{packet_of}
use Rattle.mysql_replies.specs.declared.ok_kind.CommonOkPacket.{CommonOkPacket}
use Rattle.mysql_replies.specs.declared.ok_kind.NetworkStreamTerminator.{NetworkStreamTerminator}
use Rattle.mysql_replies.specs.declared.ok_kind.OldEofPacket.{OldEofPacket}
use Rattle.mysql_replies.specs.declared.ok_kind.ResultSetTerminator.{ResultSetTerminator}
use Rattle.mysql_replies.specs.declared.ok_packet.OkPacket.{OkPacket}
use Rattle.mysql_replies.specs.declared.ok_packet.OkPacketDeserializer.{OkPacketDeserializer}
use Rattle.mysql_wire.specs.Flags.{CapabilityFlags, has}
use Rattle.mysql_wire.specs.Form.{Form}
use Rattle.mysql_packets_c.specs.Input.{used_of}
use Rattle.mysql_packets_c.specs.declared.ok_packet.COk.{COk}

-- the packet of each kind
abbrev pub common_ok : CapabilityFlags → Form (OkPacketDeserializer CommonOkPacket)
common_ok capabilities = ok.ok_packet 0 (common_ok_body capabilities)

abbrev pub terminator : CapabilityFlags → Form (OkPacketDeserializer ResultSetTerminator)
terminator capabilities = ok.ok_packet 0xfe (terminator_body capabilities)

abbrev pub old_eof : CapabilityFlags → Form (OkPacketDeserializer OldEofPacket)
old_eof capabilities = ok.ok_packet 0xfe (old_eof_body capabilities)

abbrev pub stream_end : CapabilityFlags → Form (OkPacketDeserializer NetworkStreamTerminator)
stream_end capabilities = ok.ok_packet 0xfe (old_eof_body capabilities)

-- absent fields are 0 or empty
pub record HoldsOk (p : OkPacket) (taken : ℕ) (out : COk) : Type 0 where
  pub affected_rows : out.affected_rows ≡ ok.affected_rows p
  pub last_insert_id : out.last_insert_id ≡ unwrap_or (ok.last_insert_id p) 0
  pub status_flags : out.status_flags ≡ (ok.status_flags p).0
  pub warnings : out.warnings ≡ ok.warnings p
  pub info : out.info.now ≡ ok.bytes_or_none (ok.info p)
  pub session_state : out.session_state.now ≡ ok.bytes_or_none (ok.session_state p)
  pub used : out.used ≡ taken

abbrev pub IsOk : {T : Type 0} → List ℕ → OkPacketDeserializer T → List ℕ → COk → Type 0
IsOk packet d rest out = HoldsOk (ok.packet d) (used_of packet rest) out

-- A session state is given, and the kind and the flags have a place for it, but the status does not say that it follows.
abbrev pub loses_state : ℕ → ℕ → COk → Bool
loses_state kind capabilities c =
    nat_lt kind 2 && has capabilities CLIENT_SESSION_TRACK && not (has c.status_flags SERVER_SESSION_STATE_CHANGED) && nat_lt 0 (length c.session_state.now)

-- the packet with these fields: a last insert id of 0, an empty info and an empty session state count as absent
abbrev pub ok_of : COk → OkPacket
ok_of c = packet_of (body_of c.affected_rows c.last_insert_id (record { 0 = c.status_flags; 1 = record {} }) c.warnings c.info.now c.session_state.now)
