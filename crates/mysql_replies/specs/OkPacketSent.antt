-- OK packets as a server sends them: the packet with the capabilities of both sides.
use Rattle.std.specs.Prelude.{◌≡◌, ℕ, zero, suc, ◌<◌, ◌^◌, List, [], ◌∷◌, ◌++◌, length, Option, Some, None, refl}
use Rattle.mysql_wire.specs.Flags.{CapabilityFlags, StatusFlags}
use Rattle.mysql_wire.specs.declared.constant_value.Const.{Const}
use Rattle.mysql_wire.specs.declared.int.RawInt.{RawInt}
use Rattle.mysql_wire.specs.declared.little_endian.LeU16.{LeU16}
use Rattle.mysql_wire.specs.Codecs.{Fields, ◌>>=◌, give, field, block, flags, u16, int_lenenc, raw_int}
use Rattle.mysql_wire.specs.Writing.{le_bytes}
use Rattle.mysql_replies.specs.declared.ok_kind.OkPacketBody.{OkPacketBody}
use Rattle.mysql_replies.specs.declared.ok_packet.OkPacket.{OkPacket}
use Rattle.mysql_replies.specs.declared.ok_packet.OkPacketDeserializer.{OkPacketDeserializer}
use Rattle.mysql_replies.specs.OkKind.{OkTail, body_of, ok_tail, tail_of}
use Rattle.mysql_replies.specs.OkPacket.{affected_rows, last_insert_id, status_flags, warnings, info, session_state, state_bytes, bytes_or_none}
use Rattle.mysql_replies.specs.OkTailSent.{ContentIsShort, tail_bytes, TailFits, tail-again}

-- a packet, and the capabilities of both sides
abbrev pub Sent : Type 0
Sent = OkPacket × CapabilityFlags

-- the last insert id, 0 if absent
abbrev pub id_or_zero : Option ℕ → ℕ
id_or_zero None = 0
id_or_zero (Some n) = n

abbrev pub flag_word_of : StatusFlags → Const StatusFlags LeU16
flag_word_of status = record { 0 = status; 1 = record {} }

-- status flags and warnings
abbrev pub sent_status : Fields CapabilityFlags Sent (Const StatusFlags LeU16 × RawInt LeU16 ℕ)
sent_status = do
  status ← field (λ s. flag_word_of (status_flags s.0)) (flags 2)
  warnings ← field (λ s. raw_int (warnings s.0)) u16
  give (status, warnings)

-- info and session state, by the capabilities
abbrev pub sent_tail : StatusFlags → Fields CapabilityFlags Sent OkTail
sent_tail status = record {
  form = λ c. ok_tail c status;
  value = λ s. tail_of (bytes_or_none (info s.0)) (state_bytes s.0);
  bytes = λ s. tail_bytes s.1 s.0;
  len = λ s. length (tail_bytes s.1 s.0);
  fits = λ c s rest. (c ≡ s.1) × (status ≡ status_flags s.0) × (rest ≡ []) × TailFits s.1 s.0;
  exact = λ c s rest h. refl;
  again = tail-again status;
}

-- affected rows and last insert id, length-encoded, status flags, warnings, and the tail
abbrev pub sent_body : (rows insert_id : Sent → ℕ) (kept : ℕ → ℕ) → Fields CapabilityFlags Sent OkPacketBody
sent_body rows insert_id kept = do
  affected ← field (λ s. raw_int (rows s)) int_lenenc
  id ← field (λ s. raw_int (insert_id s)) int_lenenc
  numbers ← block 4 sent_status (λ s. refl)
  tail ← sent_tail numbers.0.0
  give (body_of (kept affected.0) (kept id.0) numbers.0.0 numbers.1.0 tail.info tail.session_state_info)

-- a header, affected rows and last insert id, and the packet's other fields
abbrev pub sent_bytes : (header rows insert_id : ℕ) → CapabilityFlags → OkPacket → List ℕ
sent_bytes header rows insert_id capabilities p = header ∷ (sent_body (λ s. rows) (λ s. insert_id) (λ n. n)).bytes (p, capabilities)

-- the bytes of a kind, with this header
unfoldable pub common_bytes_with : ℕ → CapabilityFlags → OkPacket → List ℕ
common_bytes_with header capabilities p = sent_bytes header (affected_rows p) (id_or_zero (last_insert_id p)) capabilities p

unfoldable pub terminator_bytes_with : ℕ → CapabilityFlags → OkPacket → List ℕ
terminator_bytes_with header capabilities p = sent_bytes header 0 0 capabilities p

unfoldable pub eof_bytes_with : ℕ → OkPacket → List ℕ
eof_bytes_with header p = header ∷ (le_bytes 2 (warnings p) ++ le_bytes 2 (status_flags p).0)

-- with its own header
abbrev pub common_bytes : CapabilityFlags → OkPacket → List ℕ
common_bytes = common_bytes_with 0

abbrev pub terminator_bytes : CapabilityFlags → OkPacket → List ℕ
terminator_bytes = terminator_bytes_with 0xfe

abbrev pub eof_bytes : OkPacket → List ℕ
eof_bytes = eof_bytes_with 0xfe

-- the packet, read as its kind
abbrev pub deserializer_of : {T : Type 0} → OkPacket → OkPacketDeserializer T
deserializer_of p = record { 0 = p; 1 = record {} }

-- a last insert id is not 0, and fits in eight bytes
abbrev pub IdFits : Option ℕ → Type 0
IdFits None = Unit {0}
IdFits (Some zero) = ⊥
IdFits (Some (suc n)) = suc n < 2 ^ 64

-- when an OK packet is read back: numbers within their widths, a last insert id other than 0, and a readable info and session state
pub record OkPacketFits (capabilities : CapabilityFlags) (p : OkPacket) : Type 0 where
  pub affected_rows : affected_rows p < 2 ^ 64
  pub last_insert_id : IdFits (last_insert_id p)
  pub status_flags : (status_flags p).0 < 2 ^ 16
  pub warnings : warnings p < 2 ^ 16
  pub tail : TailFits capabilities p

-- the packet's numbers and lengths are within their widths
abbrev pub IdIsShort : Option ℕ → Type 0
IdIsShort None = Unit {0}
IdIsShort (Some n) = n < 2 ^ 64

pub record HasOkWidths (p : OkPacket) : Type 0 where
  pub affected_rows : affected_rows p < 2 ^ 64
  pub last_insert_id : IdIsShort (last_insert_id p)
  pub status_flags : (status_flags p).0 < 2 ^ 16
  pub warnings : warnings p < 2 ^ 16
  pub info : ContentIsShort (info p)
  pub session_state : ContentIsShort (session_state p)

-- at the end of a result set the numbers are 0, and an old EOF packet has neither info nor session state
pub record TerminatorFits (capabilities : CapabilityFlags) (p : OkPacket) : Type 0 where
  pub affected_rows : affected_rows p ≡ 0
  pub last_insert_id : last_insert_id p ≡ None
  pub status_flags : (status_flags p).0 < 2 ^ 16
  pub warnings : warnings p < 2 ^ 16
  pub tail : TailFits capabilities p

pub record OldEofFits (p : OkPacket) : Type 0 where
  pub affected_rows : affected_rows p ≡ 0
  pub last_insert_id : last_insert_id p ≡ None
  pub status_flags : (status_flags p).0 < 2 ^ 16
  pub warnings : warnings p < 2 ^ 16
  pub info : info p ≡ None
  pub session_state : session_state p ≡ None
