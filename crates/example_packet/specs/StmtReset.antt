-- The reset of a prepared statement.
use Rattle.std.specs.Prelude.{ℕ, refl}
use Rattle.mysql_wire.specs.Codec.{Codec, Fields}
use Rattle.mysql_wire.specs.Codecs.{◌>>=◌, give, field, block, packet, const_u8, u32}
use Rattle.example_packet.specs.declared.stmt_reset.ComStmtReset.{ComStmtReset}

-- the statement's number
abbrev pub stmt_id : ComStmtReset → ℕ
stmt_id p = p.stmt_id.0

-- 1a, and the statement's number
abbrev pub stmt_reset_fields : Fields (Unit {0}) ComStmtReset ComStmtReset
stmt_reset_fields = do
  header ← field (λ p. p.header) (const_u8 0x1a)
  stmt_id ← field (λ p. p.stmt_id) u32
  give (record { header = header; stmt_id = stmt_id })

-- five bytes
unfoldable pub stmt_reset : Codec (Unit {0}) ComStmtReset
stmt_reset = packet (block 5 stmt_reset_fields (λ p. refl)) (λ p. refl)
