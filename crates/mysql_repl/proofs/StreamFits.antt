-- Packets of a stream: the plain conditions are enough for the round trip.
use Rattle.std.proofs.Common.{◌≡◌, ℕ, ◌<◌, ◌^◌, List, [], ◌++◌, Option, Some, None, Bool, is_some, refl, subst}
use Rattle.std.proofs.lemmas.List.{append-nil}
use Rattle.mysql_wire.specs.CodecFits.{option_fits}
use Rattle.mysql_wire.specs.Codecs.{without_context}
use Rattle.mysql_repl.specs.BinlogStreamEvent.{agreed_header, semi_sync, stream_event, HeaderFits, StreamEventFits}
use Rattle.mysql_repl.specs.BinlogStreamPacket.{stream_packet, StreamPacketFits, StreamPacketPartsFit}
use Rattle.mysql_repl.specs.SemiSyncHeader.{flags, semi_sync_header}
use Rattle.mysql_repl.specs.declared.binlog_stream_event.BinlogStreamEvent.{BinlogStreamEvent}
use Rattle.mysql_repl.specs.declared.binlog_stream_packet.BinlogStreamPacket.{BinlogStreamPacket}
use Rattle.mysql_repl.specs.declared.binlog_stream_packet.BinlogStreamPacket.TheVariants.{Event, End, Error}
use Rattle.mysql_repl.specs.declared.semi_sync_header.SemiSyncHeader.{SemiSyncHeader}

header-fits : (agreed : Bool) (header : Option SemiSyncHeader) (rest : List ℕ) → HeaderFits agreed header → option_fits (without_context {C = Bool} semi_sync_header) agreed agreed header rest
unfolding semi_sync_header
header-fits agreed None rest h = h
header-fits agreed (Some header) rest h = (h.0, (tt, (h.1, tt)))

event-fits : (agreed : Bool) (p : BinlogStreamEvent) (rest : List ℕ) → StreamEventFits agreed p rest → stream_event.fits agreed p rest
unfolding stream_event agreed_header
event-fits agreed p rest h = (tt, (header-fits agreed (semi_sync p) _ h.semi_sync, (h.event, tt)))

pub packet-fits : (agreed : Bool) (p : BinlogStreamPacket) (rest : List ℕ) → StreamPacketFits agreed p rest → stream_packet.fits agreed p rest
unfolding stream_packet
packet-fits agreed (Event event) rest h = event-fits agreed event rest h
packet-fits agreed (End payload) rest h = h
packet-fits agreed (Error payload) rest h = h

pub packet-again : (agreed : Bool) (p : BinlogStreamPacket) (rest : List ℕ) → StreamPacketFits agreed p rest → (stream_packet.form agreed).Spells p (stream_packet.bytes p ++ rest) rest
packet-again agreed p rest h = stream_packet.again agreed p rest (packet-fits agreed p rest h)

-- ---- at hand

abbrev Width : Option SemiSyncHeader → Type 0
Width given = (header : SemiSyncHeader) → given ≡ Some header → flags header < 2 ^ 8

header-at_hand : (agreed : Bool) (given : Option SemiSyncHeader) → Width given → agreed ≡ is_some given → HeaderFits agreed given
header-at_hand agreed None width h = h
header-at_hand agreed (Some header) width h = (h, width header refl)

at-end : (agreed : Bool) (p : BinlogStreamPacket) → StreamPacketFits agreed p [] → (stream_packet.form agreed).Spells p (stream_packet.bytes p) []
at-end agreed p h = subst (λ (t : List ℕ). (stream_packet.form agreed).Spells p t []) (append-nil (stream_packet.bytes p)) (packet-again agreed p [] h)

pub event-spelled : (agreed : Bool) (event : BinlogStreamEvent) → Width (semi_sync event) → agreed ≡ is_some (semi_sync event)
    → (stream_packet.form agreed).Spells (Event event) (stream_packet.bytes (Event event)) []
event-spelled agreed event width h = at-end agreed (Event event) (record { semi_sync = header-at_hand agreed (semi_sync event) width h; event = refl })

pub whole-spelled : (agreed : Bool) (p : BinlogStreamPacket) → ((event : BinlogStreamEvent) → p ≡ Event event → ⊥) → StreamPacketPartsFit agreed p
    → (stream_packet.form agreed).Spells p (stream_packet.bytes p) []
whole-spelled agreed (Event event) other h = absurd (other event refl)
whole-spelled agreed (End payload) other h = at-end agreed (End payload) (h, refl)
whole-spelled agreed (Error payload) other h = at-end agreed (Error payload) (h, refl)

pub ruleset streams = (packet-again, event-spelled, whole-spelled)
