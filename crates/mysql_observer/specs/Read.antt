-- A payload that begins with a packet of the server of a given kind.
use Rattle.std.specs.Prelude.{ℕ, Bool, List}
use Rattle.mysql_wire.specs.declared.codes.column_type.ColumnType.{ColumnType}
use Rattle.mysql_conversation.specs.declared.packet_kind.PacketKind.{PacketKind}
use Rattle.mysql_observer.specs.Server.{server_packet}
use Rattle.mysql_observer.specs.declared.read_context.ReadContext.{ReadContext}
use Rattle.mysql_observer.specs.declared.server.ServerPacket.{ServerPacket}

module _ {C : Type 0} (type_of : C → ColumnType) (unsigned : C → Bool) where
  -- the payload begins with a packet of this kind
  abbrev pub IsRead : ReadContext C → PacketKind → List ℕ → Type 0
  IsRead c k p = (x : ServerPacket C) × (rest : List ℕ) × (server_packet type_of unsigned c k).Spells x p rest
