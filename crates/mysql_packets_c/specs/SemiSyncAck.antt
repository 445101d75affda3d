-- The acknowledgement of semi-synchronous replication, in C.
use Rattle.std.specs.Prelude.{◌≡◌, ℕ, List}
use Rattle.mysql_repl.specs.SemiSyncAck as ack
use Rattle.mysql_repl.specs.declared.semi_sync_ack.SemiSyncAckPacket.{SemiSyncAckPacket}
use Rattle.mysql_packets_c.specs.declared.semi_sync_ack.CSemiSyncAck.{CSemiSyncAck}

-- the acknowledgement with these fields
abbrev pub acknowledgement_of : CSemiSyncAck → SemiSyncAckPacket
acknowledgement_of c = ack.ack_of c.position c.file_name.now

pub record IsAck (p : SemiSyncAckPacket) (rest : List ℕ) (out : CSemiSyncAck) : Type 0 where
  pub file_name : out.file_name.now ≡ ack.filename p
  pub position : out.position ≡ ack.position p
