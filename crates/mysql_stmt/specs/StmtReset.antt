-- The reset of a prepared statement.
use Rattle.std.specs.Prelude.{refl}
use Rattle.mysql_wire.specs.Codecs.{Codec, Fields, block, packet}
use Rattle.mysql_wire.specs.CommandCodes.{COM_STMT_RESET}
use Rattle.mysql_stmt.specs.StatementCommand.{statement_fields}
use Rattle.mysql_stmt.specs.declared.stmt_reset.ComStmtReset.{ComStmtReset}
use Rattle.mysql_stmt.specs.declared.stmt_reset.InvalidComStmtResetHeader.{InvalidComStmtResetHeader}

-- 1a, and the statement's number
abbrev pub stmt_reset_fields : Fields (Unit {0}) ComStmtReset ComStmtReset
stmt_reset_fields = statement_fields InvalidComStmtResetHeader COM_STMT_RESET (λ p. p.stmt_id) (λ n. record { stmt_id = n })

-- five bytes
unfoldable pub stmt_reset : Codec (Unit {0}) ComStmtReset
stmt_reset = packet (block 5 stmt_reset_fields (λ p. refl)) (λ p. refl)
