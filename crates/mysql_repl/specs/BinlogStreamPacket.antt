-- The packets after a dump request, by their first byte.
use Rattle.std.specs.Prelude.{◌≡◌, ◌==◌, ℕ, List, [], ◌∷◌, ◌++◌, length, Bool, true, false, None, is_some, refl}
use Rattle.std.proofs.Common.{subst, sym}
use Rattle.std.proofs.lemmas.Bool.Decides.{Decides-eqb}
use Rattle.std.proofs.lemmas.List.{append-nil}
use Rattle.mysql_wire.specs.Codec.{Codec}
use Rattle.mysql_wire.specs.Form.{Form, all_left, either, looking, map}
use Rattle.mysql_repl.specs.BinlogStreamEvent.{semi_sync, stream_event, StreamEventFits}
use Rattle.mysql_repl.specs.declared.binlog_stream_packet.BinlogStreamPacket.{BinlogStreamPacket}
use Rattle.mysql_repl.specs.declared.binlog_stream_packet.BinlogStreamPacket.TheVariants.{Event, End, Error}

abbrev pub begins_with : ℕ → List ℕ → Bool
begins_with byte [] = false
begins_with byte (first ∷ others) = first == byte

-- fe is the end and ff an error, both kept as bytes; anything else is an event
abbrev pub packet_by : (agreed : Bool) → List ℕ → Form BinlogStreamPacket
packet_by agreed payload =
    either (begins_with 0xfe payload) (map End all_left)
    (either (begins_with 0xff payload) (map Error all_left)
    (map Event (stream_event.form agreed)))

abbrev pub packet_bytes : BinlogStreamPacket → List ℕ
packet_bytes (Event event) = stream_event.bytes event
packet_bytes (End payload) = payload
packet_bytes (Error payload) = payload

-- what is kept as bytes is the rest, and begins as it must
abbrev pub WholeFits : ℕ → List ℕ → List ℕ → Type 0
WholeFits byte payload rest = (begins_with byte payload ≡ true) × (rest ≡ [])

abbrev pub packet_fits : (agreed : Bool) → BinlogStreamPacket → List ℕ → Type 0
packet_fits agreed (Event event) rest = stream_event.fits agreed event rest
packet_fits agreed (End payload) rest = WholeFits 0xfe payload rest
packet_fits agreed (Error payload) rest = WholeFits 0xff payload rest

-- the condition in plain words
abbrev pub StreamPacketFits : (agreed : Bool) → BinlogStreamPacket → List ℕ → Type 0
StreamPacketFits agreed (Event event) rest = StreamEventFits agreed event rest
StreamPacketFits agreed (End payload) rest = WholeFits 0xfe payload rest
StreamPacketFits agreed (Error payload) rest = WholeFits 0xff payload rest

-- the part of it that remains to be shown for a given packet, if nothing follows
abbrev pub StreamPacketPartsFit : (agreed : Bool) → BinlogStreamPacket → Type 0
StreamPacketPartsFit agreed (Event event) = agreed ≡ is_some (semi_sync event)
StreamPacketPartsFit agreed (End payload) = begins_with 0xfe payload ≡ true
StreamPacketPartsFit agreed (Error payload) = begins_with 0xff payload ≡ true

abbrev packet_looking : (agreed : Bool) → Form BinlogStreamPacket
packet_looking agreed = looking (λ payload. packet_by agreed payload)

nothing-follows : (payload rest : List ℕ) → rest ≡ [] → payload ++ rest ≡ payload
nothing-follows payload rest e = rw e (append-nil payload)

end-again : (agreed : Bool) (payload rest : List ℕ) → WholeFits 0xfe payload rest → (packet_looking agreed).Spells (End payload) (payload ++ rest) rest
end-again agreed [] rest h = absurd cc
end-again agreed (first ∷ others) rest h = rw h.0 (first ∷ others, refl, (nothing-follows (first ∷ others) rest h.1, h.1))

-- a single byte is never another kind
other-byte : (first : ℕ) → (first == 0xff) ≡ true → (first == 0xfe) ≡ false
other-byte first h = subst (λ (n : ℕ). (n == 0xfe) ≡ false) (sym ((Decides-eqb first 0xff).0 h)) refl

error-again : (agreed : Bool) (payload rest : List ℕ) → WholeFits 0xff payload rest → (packet_looking agreed).Spells (Error payload) (payload ++ rest) rest
error-again agreed [] rest h = absurd cc
error-again agreed (first ∷ others) rest h = rw (other-byte first h.0, h.0) (first ∷ others, refl, (nothing-follows (first ∷ others) rest h.1, h.1))

pub packet-again : (agreed : Bool) (p : BinlogStreamPacket) (rest : List ℕ) → packet_fits agreed p rest → (packet_looking agreed).Spells p (packet_bytes p ++ rest) rest
unfolding stream_event
packet-again agreed (Event event) rest h = (event, refl, stream_event.again agreed event rest h)
packet-again agreed (End payload) rest h = end-again agreed payload rest h
packet-again agreed (Error payload) rest h = error-again agreed payload rest h

unfoldable pub stream_packet : Codec Bool BinlogStreamPacket
stream_packet = record {
  form = packet_looking;
  bytes = packet_bytes;
  len = λ p. length (packet_bytes p);
  fits = packet_fits;
  exact = λ agreed p rest h. refl;
  again = packet-again;
}

pub size-stream_packet : (agreed : Bool) → (stream_packet.form agreed).size ≡ None
unfolding stream_packet
size-stream_packet agreed = refl
