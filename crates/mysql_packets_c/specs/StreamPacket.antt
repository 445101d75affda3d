-- A packet in the answer to a dump, in C.
use Rattle.std.specs.Prelude.{◌≡◌, ◌==◌, ℕ, List, Bool, Option, Some, None, if◌then◌else◌}
use Rattle.mysql_repl.specs.BinlogStreamEvent.{event_bytes, event_of, semi_sync}
use Rattle.mysql_repl.specs.BinlogStreamPacket.{begins_with}
use Rattle.mysql_repl.specs.SemiSyncHeader.{header_of, wants_ack}
use Rattle.mysql_repl.specs.declared.binlog_stream_packet.BinlogStreamPacket.{BinlogStreamPacket}
use Rattle.mysql_repl.specs.declared.binlog_stream_packet.BinlogStreamPacket.TheVariants.{Event, End, Error}
use Rattle.mysql_repl.specs.declared.semi_sync_header.SemiSyncHeader.{SemiSyncHeader}
use Rattle.mysql_packets_c.specs.Given.{is_set}
use Rattle.mysql_packets_c.specs.declared.stream_packet.CStreamPacket.{CStreamPacket}

-- 1 if an acknowledgement is requested, otherwise 0
abbrev pub wanted : Option SemiSyncHeader → ℕ
wanted None = 0
wanted (Some header) = if wants_ack header then 1 else 0

-- the struct is the packet: an event's own bytes, or all bytes of the end or the error
pub record Tells (number : ℕ) (bytes : List ℕ) (wants : ℕ) (out : CStreamPacket) : Type 0 where
  pub kind : out.kind ≡ number
  pub content : out.content.now ≡ bytes
  pub wants_ack : out.wants_ack ≡ wants

abbrev pub IsStreamPacket : BinlogStreamPacket → List ℕ → CStreamPacket → Type 0
IsStreamPacket (Event event) rest out = Tells 0 (event_bytes event) (wanted (semi_sync event)) out
IsStreamPacket (End payload) rest out = Tells 1 payload 0 out
IsStreamPacket (Error payload) rest out = Tells 2 payload 0 out

-- the event with these fields, with the header of semi-synchronous replication if agreed on
abbrev pub event_given : (agreed : Bool) → CStreamPacket → BinlogStreamPacket
event_given agreed c = Event (event_of (if agreed then Some (header_of (is_set c.wants_ack)) else None) c.content.now)

-- a packet that begins with this byte
abbrev pub whole : ℕ → (List ℕ → BinlogStreamPacket) → List ℕ → Option BinlogStreamPacket
whole byte packet payload = if begins_with byte payload then Some (packet payload) else None

-- the packet with these fields: an end begins with fe, an error with ff
abbrev pub packet_given : (agreed : Bool) → CStreamPacket → Option BinlogStreamPacket
packet_given agreed c =
    if c.kind == 0 then Some (event_given agreed c)
    else if c.kind == 1 then whole 0xfe End c.content.now
    else if c.kind == 2 then whole 0xff Error c.content.now
    else None
