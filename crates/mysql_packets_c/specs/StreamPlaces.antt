-- A borrowed packet of a stream.
use Rattle.mysql_repl.specs.BinlogStreamEvent.{event_of}
use Rattle.mysql_repl.specs.declared.binlog_stream_packet.BinlogStreamPacket.{BinlogStreamPacket}
use Rattle.mysql_repl.specs.declared.binlog_stream_packet.BinlogStreamPacket.TheVariants.{Event, End, Error}
use Rattle.mysql_packets_c.specs.declared.stream_packet.StreamPlaces.{StreamPlaces}
use Rattle.mysql_packets_c.specs.declared.stream_packet.StreamPlaces.TheVariants as place

abbrev pub packet_at : StreamPlaces → BinlogStreamPacket
packet_at (place.Event header event) = Event (event_of header event.now)
packet_at (place.End payload) = End payload.now
packet_at (place.Error payload) = Error payload.now
