-- The header of semi-synchronous replication, in front of an event.
use Rattle.std.specs.Prelude.{ℕ, ◌==◌, ◌%◌, Bool, if◌then◌else◌, refl}
use Rattle.mysql_wire.specs.Codec.{Codec, Fields}
use Rattle.mysql_wire.specs.Codecs.{◌>>=◌, give, field, block, packet, const_u8, raw_int, u8}
use Rattle.mysql_repl.specs.declared.semi_sync_header.SemiSyncHeader.{SemiSyncHeader}

abbrev pub flags : SemiSyncHeader → ℕ
flags p = p.flags.0

-- the lowest bit
abbrev pub wants_ack : SemiSyncHeader → Bool
wants_ack p = (flags p) % 2 == 1

-- the header with only that bit, or with none
abbrev pub header_of : Bool → SemiSyncHeader
header_of wants = record { header = record { 0 = record {} }; flags = raw_int (if wants then 1 else 0) }

-- ef, and the flags
abbrev pub semi_sync_header_fields : Fields (Unit {0}) SemiSyncHeader SemiSyncHeader
semi_sync_header_fields = do
  header ← field (λ p. p.header) (const_u8 0xef)
  flags ← field (λ p. p.flags) u8
  give (record { header = header; flags = flags })

-- two bytes
unfoldable pub semi_sync_header : Codec (Unit {0}) SemiSyncHeader
semi_sync_header = packet (block 2 semi_sync_header_fields (λ p. refl)) (λ p. refl)
