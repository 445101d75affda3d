-- The answer to a preparation, in C.
use Rattle.std.specs.Prelude.{◌≡◌, ℕ, List, Bool, ◌||◌, Option, Some, None, if◌then◌else◌}
use Rattle.std.specs.Option.{unwrap_or}
use Rattle.mysql_stmt.specs.Stmt as stmt
use Rattle.mysql_stmt.specs.StmtWithMetadata as with_metadata
use Rattle.mysql_stmt.specs.declared.stmt_with_metadata.StmtPacketWithMetadata.{StmtPacketWithMetadata}
use Rattle.mysql_wire.specs.Flags.{CapabilityFlags}
use Rattle.mysql_packets_c.specs.Given.{is_set}
use Rattle.mysql_packets_c.specs.Input.{used_of}
use Rattle.mysql_packets_c.specs.declared.statement.CStatement.{CStatement}

-- definitions follow unless a byte says otherwise
pub record IsStatement (packet : List ℕ) (p : StmtPacketWithMetadata) (rest : List ℕ) (out : CStatement) : Type 0 where
  pub statement_id : out.statement_id ≡ stmt.statement_id (with_metadata.packet_of p)
  pub num_columns : out.num_columns ≡ stmt.num_columns (with_metadata.packet_of p)
  pub num_params : out.num_params ≡ stmt.num_params (with_metadata.packet_of p)
  pub warning_count : out.warning_count ≡ stmt.warning_count (with_metadata.packet_of p)
  pub metadata_follows : out.metadata_follows ≡ unwrap_or (with_metadata.metadata_of p) 1
  pub used : out.used ≡ used_of packet rest

-- the byte that says whether definitions follow
abbrev pub byte_of : CapabilityFlags → ℕ → Option ℕ
byte_of capabilities follows = if with_metadata.sends_metadata capabilities then Some follows else None

-- definitions follow, or a byte can say that none do
abbrev pub is_sayable : CapabilityFlags → CStatement → Bool
is_sayable capabilities c = with_metadata.sends_metadata capabilities || is_set c.metadata_follows

-- the packet with these fields
pub record IsGivenStatement (capabilities : CapabilityFlags) (c : CStatement) (p : StmtPacketWithMetadata) : Type 0 where
  pub packet : with_metadata.packet_of p ≡ stmt.stmt_packet_of c.statement_id c.num_columns c.num_params c.warning_count
  pub metadata : with_metadata.metadata_of p ≡ byte_of capabilities c.metadata_follows
