-- The end of a prepared statement.
use Rattle.std.specs.Prelude.{refl}
use Rattle.mysql_wire.specs.Codecs.{Codec, Fields, block, packet}
use Rattle.mysql_wire.specs.CommandCodes.{COM_STMT_CLOSE}
use Rattle.mysql_stmt.specs.StatementCommand.{statement_fields}
use Rattle.mysql_stmt.specs.declared.close.ComStmtClose.{ComStmtClose}
use Rattle.mysql_stmt.specs.declared.close.InvalidComStmtCloseHeader.{InvalidComStmtCloseHeader}

-- 19, and the statement's number
abbrev pub close_fields : Fields (Unit {0}) ComStmtClose ComStmtClose
close_fields = statement_fields InvalidComStmtCloseHeader COM_STMT_CLOSE (λ p. p.stmt_id) (λ n. record { stmt_id = n })

-- five bytes
unfoldable pub close : Codec (Unit {0}) ComStmtClose
close = packet (block 5 close_fields (λ p. refl)) (λ p. refl)
