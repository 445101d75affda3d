-- An OK packet that was read is sent with the same bytes: reading yields only what a sender writes.
use Rattle.std.proofs.Common.{◌≡◌, ℕ, zero, suc, List, [], ◌∷◌, Bool, true, false, ◌&&◌, sym, subst, ap, ◌∙◌}
use Rattle.mysql_wire.specs.CodecFits.{is_there}
use Rattle.mysql_wire.specs.Flags.{CapabilityFlags, StatusFlags}
use Rattle.mysql_wire.specs.Form.{Form, ◌>>=◌, give, either}
use Rattle.mysql_wire.specs.LenEnc.{lenenc_string}
use Rattle.mysql_replies.specs.declared.ok_kind.CommonOkPacket.{CommonOkPacket}
use Rattle.mysql_replies.specs.declared.ok_kind.NetworkStreamTerminator.{NetworkStreamTerminator}
use Rattle.mysql_replies.specs.declared.ok_kind.OldEofPacket.{OldEofPacket}
use Rattle.mysql_replies.specs.declared.ok_kind.ResultSetTerminator.{ResultSetTerminator}
use Rattle.mysql_replies.specs.declared.ok_kind.OkPacketBody.{OkPacketBody}
use Rattle.mysql_replies.specs.declared.ok_packet.OkPacket.{OkPacket}
use Rattle.mysql_replies.specs.declared.ok_packet.OkPacketDeserializer.{OkPacketDeserializer}
use Rattle.mysql_replies.specs.OkKind.{OkTail, begins_with_no_zero, body_of, common_ok_body, terminator_body, old_eof_body, ok_end, ok_tail, state_changed, tail_of, tracks}
use Rattle.mysql_replies.specs.OkPacket.{ok_packet, packet_of, unless_empty, unless_zero}
use Rattle.mysql_replies.specs.OkPacketSent.{IdFits, IdIsShort, OkPacketFits, TerminatorFits, OldEofFits, HasOkWidths, common_bytes, deserializer_of, eof_bytes, terminator_bytes}
use Rattle.mysql_replies.proofs.OkPacketAgain.{common-again, terminator-again, old_eof-again}
use Rattle.mysql_replies.specs.OkTailSent.{ContentFits, ContentIsShort, StateIsSent}

none-sent : (t u : OkTail) → t ≡ u → StateIsSent false (unless_empty u.session_state_info) → StateIsSent false (unless_empty t.session_state_info)
none-sent t u e h = subst (λ (v : OkTail). StateIsSent false (unless_empty v.session_state_info)) (sym e) h

no-state : (state : List ℕ) → state ≡ [] → StateIsSent false (unless_empty state)
no-state state e = subst (λ (l : List ℕ). StateIsSent false (unless_empty l)) (sym e) tt

-- a state is read only if it is sent
tail-by : (tr ch th nz : Bool) (t : OkTail) (bytes rest : List ℕ)
    → (either (tr && th) (do
      info ← lenenc_string
      state ← either ch lenenc_string (give [])
      give (tail_of info state))
    (either nz (do
      info ← lenenc_string
      give (tail_of info []))
    (give (tail_of [] [])))).Spells t bytes rest
    → StateIsSent (tr && ch) (unless_empty t.session_state_info)
tail-by true true th nz t bytes rest s = tt
tail-by true false true nz t bytes rest s = none-sent t (tail_of s.0 s.3.0) s.3.3.0 (no-state s.3.0 s.3.2.0)
tail-by true false false true t bytes rest s = none-sent t (tail_of s.0 []) s.3.0 tt
tail-by true false false false t bytes rest s = none-sent t (tail_of [] []) s.0 tt
tail-by false ch th true t bytes rest s = none-sent t (tail_of s.0 []) s.3.0 tt
tail-by false ch th false t bytes rest s = none-sent t (tail_of [] []) s.0 tt

tail-shape : (c : CapabilityFlags) (status : StatusFlags) (t : OkTail) (bytes rest : List ℕ) → (ok_tail c status).Spells t bytes rest
    → StateIsSent (tracks c && state_changed status) (unless_empty t.session_state_info)
unfolding ok_tail
tail-shape c status t bytes rest s = tail-by (tracks c) (state_changed status) (is_there bytes) (begins_with_no_zero bytes) t bytes rest s

-- an empty content and an insert id of 0 are absent
content-fits : (bytes : List ℕ) → ContentIsShort (unless_empty bytes) → ContentFits (unless_empty bytes)
content-fits [] h = tt
content-fits (b ∷ bytes) h = h

id-fits : (n : ℕ) → IdIsShort (unless_zero n) → IdFits (unless_zero n)
id-fits zero h = tt
id-fits (suc n) h = h

end-shape : (c : CapabilityFlags) (rows id : ℕ) (b : OkPacketBody) (bytes rest : List ℕ) → (ok_end c rows id).Spells b bytes rest
    → (b.affected_rows ≡ rows) × (b.last_insert_id ≡ id) × StateIsSent (tracks c && state_changed b.status_flags) (unless_empty b.session_state_info)
unfolding ok_end
end-shape c rows id b bytes rest s =
    let is = s.3.3.0 in
    let shape = tail-shape c s.0.0.0 s.3.0 _ _ s.3.2 in (
      ap (λ (x : OkPacketBody). x.affected_rows) is,
      ap (λ (x : OkPacketBody). x.last_insert_id) is,
      subst (λ (x : OkPacketBody). StateIsSent (tracks c && state_changed x.status_flags) (unless_empty x.session_state_info)) (sym is) shape,
    )

fits-of : (c : CapabilityFlags) (b : OkPacketBody) → HasOkWidths (packet_of b) → StateIsSent (tracks c && state_changed b.status_flags) (unless_empty b.session_state_info)
    → OkPacketFits c (packet_of b)
fits-of c b w s = record {
  affected_rows = w.affected_rows;
  last_insert_id = id-fits b.last_insert_id w.last_insert_id;
  status_flags = w.status_flags;
  warnings = w.warnings;
  tail = record { sent = s; info = content-fits b.info w.info; session_state = content-fits b.session_state_info w.session_state };
}

-- the body of a packet that is spelled
HasBody : Form OkPacketBody → OkPacket → Type 0
HasBody body p = (b : OkPacketBody) × (mid : List ℕ) × (left : List ℕ) × body.Spells b mid left × (p ≡ packet_of b)

body-of-packet : (T : Type 0) (header : ℕ) (body : Form OkPacketBody) (p : OkPacket) (bytes rest : List ℕ) → (ok_packet {T = T} header body).Spells (deserializer_of p) bytes rest
    → HasBody body p
unfolding HasBody ok_packet
body-of-packet T header body p bytes rest s = (s.3.0, s.1, s.3.1, s.3.2, ap (λ (d : OkPacketDeserializer T). d.0) s.3.3.0)

common-fits : (c : CapabilityFlags) (p : OkPacket) → HasOkWidths p → HasBody (common_ok_body c) p → OkPacketFits c p
unfolding HasBody
common-fits c p w b =
    let end = end-shape c b.3.0.0 b.3.3.0.0 b.0 _ _ b.3.3.3 in
    subst (OkPacketFits c) (sym b.4) (fits-of c b.0 (subst HasOkWidths b.4 w) end.2)

terminator-fits : (c : CapabilityFlags) (p : OkPacket) → HasOkWidths p → HasBody (terminator_body c) p → TerminatorFits c p
unfolding HasBody
terminator-fits c p w b =
    let end = end-shape c 0 0 b.0 _ _ b.3.3.3 in
    let fits = subst (OkPacketFits c) (sym b.4) (fits-of c b.0 (subst HasOkWidths b.4 w) end.2) in
    record {
      affected_rows = ap (λ (q : OkPacket). q.affected_rows) b.4 ∙ end.0;
      last_insert_id = ap (λ (q : OkPacket). q.last_insert_id) b.4 ∙ ap unless_zero end.1;
      status_flags = fits.status_flags;
      warnings = fits.warnings;
      tail = fits.tail;
    }

-- an old EOF packet has neither numbers nor texts
old_eof-fits : (c : CapabilityFlags) (p : OkPacket) → HasOkWidths p → HasBody (old_eof_body c) p → OldEofFits p
unfolding HasBody
old_eof-fits c p w b =
    let is : b.0 ≡ body_of 0 0 b.3.0.1.0 b.3.0.0.0 [] [] = b.3.3.0 in
    record {
      affected_rows = ap (λ (q : OkPacket). q.affected_rows) b.4 ∙ ap (λ (x : OkPacketBody). x.affected_rows) is;
      last_insert_id = ap (λ (q : OkPacket). q.last_insert_id) b.4 ∙ ap (λ (x : OkPacketBody). unless_zero x.last_insert_id) is;
      status_flags = w.status_flags;
      warnings = w.warnings;
      info = ap (λ (q : OkPacket). q.info) b.4 ∙ ap (λ (x : OkPacketBody). unless_empty x.info) is;
      session_state = ap (λ (q : OkPacket). q.session_state_info) b.4 ∙ ap (λ (x : OkPacketBody). unless_empty x.session_state_info) is;
    }

pub common-sent : (c : CapabilityFlags) (p : OkPacket) (bytes rest : List ℕ) → HasOkWidths p
    → (ok_packet {T = CommonOkPacket} 0 (common_ok_body c)).Spells (deserializer_of p) bytes rest
    → (ok_packet {T = CommonOkPacket} 0 (common_ok_body c)).Spells (deserializer_of p) (common_bytes c p) []
common-sent c p bytes rest w s = common-again CommonOkPacket c p (common-fits c p w (body-of-packet CommonOkPacket 0 (common_ok_body c) p bytes rest s))

pub terminator-sent : (c : CapabilityFlags) (p : OkPacket) (bytes rest : List ℕ) → HasOkWidths p
    → (ok_packet {T = ResultSetTerminator} 0xfe (terminator_body c)).Spells (deserializer_of p) bytes rest
    → (ok_packet {T = ResultSetTerminator} 0xfe (terminator_body c)).Spells (deserializer_of p) (terminator_bytes c p) []
terminator-sent c p bytes rest w s =
    terminator-again ResultSetTerminator c p (terminator-fits c p w (body-of-packet ResultSetTerminator 0xfe (terminator_body c) p bytes rest s))

end-sent : (T : Type 0) (c : CapabilityFlags) (p : OkPacket) (bytes rest : List ℕ) → HasOkWidths p
    → (ok_packet {T = T} 0xfe (old_eof_body c)).Spells (deserializer_of p) bytes rest
    → (ok_packet {T = T} 0xfe (old_eof_body c)).Spells (deserializer_of p) (eof_bytes p) []
end-sent T c p bytes rest w s = old_eof-again T c p (old_eof-fits c p w (body-of-packet T 0xfe (old_eof_body c) p bytes rest s))

pub old_eof-sent : (c : CapabilityFlags) (p : OkPacket) (bytes rest : List ℕ) → HasOkWidths p
    → (ok_packet {T = OldEofPacket} 0xfe (old_eof_body c)).Spells (deserializer_of p) bytes rest
    → (ok_packet {T = OldEofPacket} 0xfe (old_eof_body c)).Spells (deserializer_of p) (eof_bytes p) []
old_eof-sent = end-sent OldEofPacket

pub stream_end-sent : (c : CapabilityFlags) (p : OkPacket) (bytes rest : List ℕ) → HasOkWidths p
    → (ok_packet {T = NetworkStreamTerminator} 0xfe (old_eof_body c)).Spells (deserializer_of p) bytes rest
    → (ok_packet {T = NetworkStreamTerminator} 0xfe (old_eof_body c)).Spells (deserializer_of p) (eof_bytes p) []
stream_end-sent = end-sent NetworkStreamTerminator

pub ruleset read_again = (common-sent, terminator-sent)
