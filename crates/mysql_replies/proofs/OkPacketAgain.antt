-- An OK packet is read back, as its kind.
use Rattle.std.proofs.Common.{◌≡◌, ◌<◌, ◌^◌, ℕ, zero, suc, List, [], ◌∷◌, Option, Some, None, refl, sym, subst, ap, ◌∙◌, arith}
use Rattle.std.proofs.lemmas.Bool.{eq-eqb}
use Rattle.std.proofs.lemmas.List.{append-nil}
use Rattle.mysql_wire.specs.Flags.{CapabilityFlags}
use Rattle.mysql_wire.specs.Flags.{StatusFlags}
use Rattle.mysql_wire.specs.declared.constant_value.Const.{Const}
use Rattle.mysql_wire.specs.declared.int.RawInt.{RawInt}
use Rattle.mysql_wire.specs.declared.little_endian.LeU16.{LeU16}
use Rattle.mysql_wire.specs.Codecs.{Fields, ◌>>=◌, give, field, block, flags, u16}
use Rattle.mysql_wire.specs.Form.{Form}
use Rattle.mysql_wire.specs.Int.{raw_int, byte}
use Rattle.mysql_wire.specs.Spelling.{byte-again}
use Rattle.mysql_wire.specs.Writing.{le_bytes}
use Rattle.mysql_replies.specs.declared.ok_kind.OkPacketBody.{OkPacketBody}
use Rattle.mysql_replies.specs.declared.ok_packet.OkPacket.{OkPacket}
use Rattle.mysql_replies.specs.OkKind.{common_ok_body, terminator_body, old_eof_body, ok_end, body_of}
use Rattle.mysql_replies.specs.OkPacket.{ok_header, ok_packet, deserialized, unless_zero, unless_empty, bytes_or_none}
use Rattle.mysql_replies.specs.OkPacketSent.{id_or_zero, deserializer_of, flag_word_of, sent_body, common_bytes, common_bytes_with, terminator_bytes, terminator_bytes_with, eof_bytes, eof_bytes_with, IdFits, OkPacketFits, TerminatorFits, OldEofFits}
use Rattle.mysql_replies.specs.OkTailSent.{ContentFits}

-- an insert id, an info and a state are read back
id-same : (id : Option ℕ) → IdFits id → unless_zero (id_or_zero id) ≡ id
id-same None h = refl
id-same (Some zero) h = absurd h
id-same (Some (suc n)) h = refl

id-width : (id : Option ℕ) → IdFits id → id_or_zero id < 2 ^ 64
id-width None h = omega arith
id-width (Some zero) h = absurd h
id-width (Some (suc n)) h = h

content-same : (content : Option (List ℕ)) → ContentFits content → unless_empty (bytes_or_none content) ≡ content
content-same None h = refl
content-same (Some []) h = absurd h
content-same (Some (b ∷ bytes)) h = refl

no_numbers : (p : OkPacket) → p.affected_rows ≡ 0 → p.last_insert_id ≡ None → record p { affected_rows = 0; last_insert_id = None } ≡ p
no_numbers p rows id =
    ap (λ n. record p { affected_rows = n; last_insert_id = None }) (sym rows) ∙ ap (λ o. record p { last_insert_id = o }) (sym id)

no_texts : (p : OkPacket) → p.info ≡ None → p.session_state_info ≡ None
    → record p { affected_rows = 0; last_insert_id = None; info = None; session_state_info = None } ≡ record p { affected_rows = 0; last_insert_id = None }
no_texts p info state =
    ap (λ o. record p { affected_rows = 0; last_insert_id = None; info = o; session_state_info = None }) (sym info)
    ∙ ap (λ o. record p { affected_rows = 0; last_insert_id = None; session_state_info = o }) (sym state)

-- the header, and a body that is spelled
packet-again : (T : Type 0) (header : ℕ) → ((rest : List ℕ) → byte.Spells (raw_int header) (header ∷ rest) rest)
    → (body : Form OkPacketBody) (b : OkPacketBody) (bytes : List ℕ) → body.Spells b bytes []
    → (ok_packet {T = T} header body).Spells (deserialized b) (header ∷ bytes) []
unfolding ok_packet ok_header
packet-again T header first body b bytes h = (tt, bytes, (raw_int header, bytes, first bytes, rw (eq-eqb header header refl) (refl, refl)), (b, [], h, (refl, refl)))

header-00 : (rest : List ℕ) → byte.Spells (raw_int 0) (0 ∷ rest) rest
unfolding le_bytes
header-00 rest = byte-again 0 (omega arith) rest

header-fe : (rest : List ℕ) → byte.Spells (raw_int 0xfe) (0xfe ∷ rest) rest
unfolding le_bytes
header-fe rest = byte-again 0xfe (omega arith) rest

-- ---- by kinds

pub common-again : (T : Type 0) (c : CapabilityFlags) (p : OkPacket) → OkPacketFits c p
    → (ok_packet {T = T} 0 (common_ok_body c)).Spells (deserializer_of p) (common_bytes c p) []
unfolding common_bytes_with ok_end
common-again T c p h =
    let f = sent_body (λ s. s.0.affected_rows) (λ s. id_or_zero s.0.last_insert_id) (λ n. n) in
    let fits : f.fits c (p, c) [] = (h.affected_rows, (id-width p.last_insert_id h.last_insert_id, ((h.status_flags, (h.warnings, tt)), ((refl, refl, refl, h.tail), tt)))) in
    let body : (common_ok_body c).Spells (f.value (p, c)) (f.bytes (p, c)) [] = rw append-nil at (f.again c (p, c) [] fits) in
    rw (id-same p.last_insert_id h.last_insert_id, content-same p.info h.tail.info, content-same p.session_state_info h.tail.session_state) at
    (packet-again T 0 header-00 (common_ok_body c) (f.value (p, c)) (f.bytes (p, c)) body)

pub terminator-again : (T : Type 0) (c : CapabilityFlags) (p : OkPacket) → TerminatorFits c p
    → (ok_packet {T = T} 0xfe (terminator_body c)).Spells (deserializer_of p) (terminator_bytes c p) []
unfolding terminator_bytes_with ok_end
terminator-again T c p h =
    let f = sent_body (λ s. 0) (λ s. 0) (λ n. 0) in
    let fits : f.fits c (p, c) [] = (omega arith, (omega arith, ((h.status_flags, (h.warnings, tt)), ((refl, refl, refl, h.tail), tt)))) in
    let body : (terminator_body c).Spells (f.value (p, c)) (f.bytes (p, c)) [] = rw append-nil at (f.again c (p, c) [] fits) in
    let read = rw (content-same p.info h.tail.info, content-same p.session_state_info h.tail.session_state) at
    (packet-again T 0xfe header-fe (terminator_body c) (f.value (p, c)) (f.bytes (p, c)) body) in
    subst (λ (q : OkPacket). (ok_packet {T = T} 0xfe (terminator_body c)).Spells (deserializer_of q) (terminator_bytes c p) []) (no_numbers p h.affected_rows h.last_insert_id) read

-- the warnings and the status of an old EOF packet
sent_numbers : Fields CapabilityFlags OkPacket (RawInt LeU16 ℕ × Const StatusFlags LeU16)
sent_numbers = do
  warnings ← field (λ p. raw_int p.warnings) u16
  status ← field (λ p. flag_word_of p.status_flags) (flags 2)
  give (warnings, status)

sent_old_eof : Fields CapabilityFlags OkPacket OkPacketBody
unfolding sent_numbers
sent_old_eof = do
  numbers ← block 4 sent_numbers (λ p. refl)
  give (body_of 0 0 numbers.1.0 numbers.0.0 [] [])

pub old_eof-again : (T : Type 0) (c : CapabilityFlags) (p : OkPacket) → OldEofFits p
    → (ok_packet {T = T} 0xfe (old_eof_body c)).Spells (deserializer_of p) (eof_bytes p) []
unfolding sent_numbers sent_old_eof eof_bytes_with
old_eof-again T c p h =
    let fits : sent_old_eof.fits c p [] = ((h.warnings, (h.status_flags, tt)), tt) in
    let body : (old_eof_body c).Spells (sent_old_eof.value p) (sent_old_eof.bytes p) [] = rw append-nil at (sent_old_eof.again c p [] fits) in
    let read = packet-again T 0xfe header-fe (old_eof_body c) (sent_old_eof.value p) (sent_old_eof.bytes p) body in
    subst (λ (q : OkPacket). (ok_packet {T = T} 0xfe (old_eof_body c)).Spells (deserializer_of q) (eof_bytes p) []) (no_texts p h.info h.session_state ∙ no_numbers p h.affected_rows h.last_insert_id) (rw append-nil at (rw append-nil at read))
