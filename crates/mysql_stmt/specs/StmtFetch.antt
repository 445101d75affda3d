-- The request for rows of a cursor.
use Rattle.std.specs.Prelude.{refl}
use Rattle.mysql_wire.specs.Codecs.{Codec, Fields, ◌>>=◌, give, field, block, packet, const_u8, u32, raw_int}
use Rattle.mysql_wire.specs.CommandCodes.{COM_STMT_FETCH}
use Rattle.mysql_stmt.specs.declared.stmt_fetch.ComStmtFetch.{ComStmtFetch}
use Rattle.mysql_stmt.specs.declared.stmt_fetch.InvalidComStmtFetchHeader.{InvalidComStmtFetchHeader}

-- 1c, the statement's number, and the number of rows
abbrev pub stmt_fetch_fields : Fields (Unit {0}) ComStmtFetch ComStmtFetch
stmt_fetch_fields = do
  header ← field (λ p. record { 0 = record {} }) (const_u8 {T = InvalidComStmtFetchHeader} COM_STMT_FETCH)
  stmt_id ← field (λ p. raw_int p.stmt_id) u32
  num_rows ← field (λ p. raw_int p.num_rows) u32
  give (record { stmt_id = stmt_id.0; num_rows = num_rows.0 })

-- nine bytes
unfoldable pub stmt_fetch : Codec (Unit {0}) ComStmtFetch
stmt_fetch = packet (block 9 stmt_fetch_fields (λ p. refl)) (λ p. refl)
