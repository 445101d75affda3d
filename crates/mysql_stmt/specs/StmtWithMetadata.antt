-- The answer to COM_STMT_PREPARE, under the connection's flags.
use Rattle.std.specs.Prelude.{ℕ, Bool, Option, option_map, refl}
use Rattle.mysql_wire.specs.Codecs.{Codec, Fields, ◌>>=◌, give, field, packet, without_context, when, u8}
use Rattle.mysql_wire.specs.FlagMasks.{CLIENT_OPTIONAL_RESULTSET_METADATA}
use Rattle.mysql_wire.specs.Flags.{CapabilityFlags, has}
use Rattle.mysql_stmt.specs.Stmt.{stmt}
use Rattle.mysql_stmt.specs.declared.stmt.StmtPacket.{StmtPacket}
use Rattle.mysql_stmt.specs.declared.stmt_with_metadata.StmtPacketWithMetadata.{StmtPacketWithMetadata}

abbrev pub packet_of : StmtPacketWithMetadata → StmtPacket
packet_of p = p.packet

abbrev pub metadata_of : StmtPacketWithMetadata → Option ℕ
metadata_of p = option_map (λ byte. byte.0) p.metadata

-- CLIENT_OPTIONAL_RESULTSET_METADATA is agreed on
abbrev pub sends_metadata : CapabilityFlags → Bool
sends_metadata capabilities = has capabilities.0 CLIENT_OPTIONAL_RESULTSET_METADATA

-- the statement packet, and a byte under the flag
abbrev pub stmt_with_metadata_fields : Fields CapabilityFlags StmtPacketWithMetadata StmtPacketWithMetadata
stmt_with_metadata_fields = do
  packet ← field packet_of (without_context stmt)
  metadata ← field (λ p. p.metadata) (when sends_metadata u8)
  give (record { packet = packet; metadata = metadata })

unfoldable pub stmt_with_metadata : Codec CapabilityFlags StmtPacketWithMetadata
stmt_with_metadata = packet stmt_with_metadata_fields (λ p. refl)
