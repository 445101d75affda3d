-- The acknowledgement of a position.
use Rattle.std.specs.Prelude.{◌≡◌, ℕ, ◌<◌, ◌^◌, List, [], None, refl}
use Rattle.mysql_wire.specs.declared.constant.ConstU8.{ConstU8}
use Rattle.mysql_wire.specs.declared.int.RawInt.{RawInt}
use Rattle.mysql_wire.specs.declared.little_endian.LeU64.{LeU64}
use Rattle.mysql_wire.specs.Codec.{Codec, Fields}
use Rattle.mysql_wire.specs.Codecs.{◌>>=◌, give, field, block, packet, const_u8, string_eof, u64}
use Rattle.mysql_wire.specs.Int.{raw_int}
use Rattle.mysql_repl.specs.declared.semi_sync_ack.SemiSyncAckPacket.{SemiSyncAckPacket}
use Rattle.mysql_repl.specs.declared.semi_sync_ack.InvalidSemiSyncAckPacketPacketHeader.{InvalidSemiSyncAckPacketPacketHeader}

-- ef and the position, in nine bytes
abbrev pub semi_sync_ack_head : Fields (Unit {0}) SemiSyncAckPacket (ConstU8 InvalidSemiSyncAckPacketPacketHeader 0xef × RawInt LeU64 ℕ)
semi_sync_ack_head = do
  header ← field (λ p. p.header) (const_u8 0xef)
  position ← field (λ p. p.position) u64
  give (header, position)

-- nine bytes, and the file name to the end
abbrev pub semi_sync_ack_fields : Fields (Unit {0}) SemiSyncAckPacket SemiSyncAckPacket
semi_sync_ack_fields = do
  head ← block 9 semi_sync_ack_head (λ p. refl)
  filename ← field (λ p. p.filename) string_eof
  give (record { header = head.0; position = head.1; filename = filename })

unfoldable pub semi_sync_ack : Codec (Unit {0}) SemiSyncAckPacket
semi_sync_ack = packet semi_sync_ack_fields (λ p. refl)

pub size-semi_sync_ack : (semi_sync_ack.form tt).size ≡ None
unfolding semi_sync_ack
size-semi_sync_ack = refl

abbrev pub ack_of : (position : ℕ) (filename : List ℕ) → SemiSyncAckPacket
ack_of position filename = record { header = record { 0 = record {} }; position = raw_int position; filename = filename }

abbrev pub with_position : ℕ → SemiSyncAckPacket → SemiSyncAckPacket
with_position position p = record p { position = raw_int position }

abbrev pub with_filename : List ℕ → SemiSyncAckPacket → SemiSyncAckPacket
with_filename filename p = record p { filename = filename }

abbrev pub position : SemiSyncAckPacket → ℕ
position p = p.position.0

abbrev pub filename : SemiSyncAckPacket → List ℕ
filename p = p.filename

-- an acknowledgement is read back if nothing follows the file name
pub record SemiSyncAckFits (p : SemiSyncAckPacket) (rest : List ℕ) : Type 0 where
  pub position : position p < 2 ^ 64
  pub filename : rest ≡ []
