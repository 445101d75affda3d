-- The answer to COM_STMT_PREPARE.
use Rattle.std.specs.Prelude.{ℕ, ◌<◌, ◌^◌, refl}
use Rattle.mysql_wire.specs.Codecs.{Codec, Fields, ◌>>=◌, give, field, block, packet, const_u8, skip, u16, u32, raw_int}
use Rattle.mysql_stmt.specs.declared.stmt.StmtPacket.{StmtPacket}

-- 0, the statement's number, the numbers of columns and parameters, a byte with any value, and the number of warnings
abbrev pub stmt_fields : Fields (Unit {0}) StmtPacket StmtPacket
stmt_fields = do
  status ← field (λ p. p.status) (const_u8 0)
  statement_id ← field (λ p. p.statement_id) u32
  num_columns ← field (λ p. p.num_columns) u16
  num_params ← field (λ p. p.num_params) u16
  skipped ← field (λ p. p.skipped) (skip 1)
  warning_count ← field (λ p. p.warning_count) u16
  give (record {
    status = status;
    statement_id = statement_id;
    num_columns = num_columns;
    num_params = num_params;
    skipped = skipped;
    warning_count = warning_count;
  })

-- twelve bytes
unfoldable pub stmt : Codec (Unit {0}) StmtPacket
stmt = packet (block 12 stmt_fields (λ p. refl)) (λ p. refl)

-- the packet with these numbers
abbrev pub stmt_packet_of : (statement_id num_columns num_params warning_count : ℕ) → StmtPacket
stmt_packet_of statement_id num_columns num_params warning_count = record {
  status = record { 0 = record {} };
  statement_id = raw_int statement_id;
  num_columns = raw_int num_columns;
  num_params = raw_int num_params;
  skipped = record {};
  warning_count = raw_int warning_count;
}

-- ---- numbers

abbrev pub statement_id : StmtPacket → ℕ
statement_id p = p.statement_id.0

abbrev pub num_columns : StmtPacket → ℕ
num_columns p = p.num_columns.0

abbrev pub num_params : StmtPacket → ℕ
num_params p = p.num_params.0

abbrev pub warning_count : StmtPacket → ℕ
warning_count p = p.warning_count.0

-- when the packet is read back: numbers within their widths
pub record StmtPacketFits (p : StmtPacket) : Type 0 where
  pub statement_id : statement_id p < 2 ^ 32
  pub num_columns : num_columns p < 2 ^ 16
  pub num_params : num_params p < 2 ^ 16
  pub warning_count : warning_count p < 2 ^ 16
