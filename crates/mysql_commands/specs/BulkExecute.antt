-- A bulk execution: its head, and the rest as bytes.
use Rattle.std.specs.Prelude.{ℕ, List, refl}
use Rattle.mysql_wire.specs.Codecs.{Codec, Fields, ◌>>=◌, give, field, packet, const_u8, u32, flags, string_eof, raw_int}
use Rattle.mysql_wire.specs.CommandCodes.{COM_STMT_BULK_EXECUTE}
use Rattle.mysql_wire.specs.ConstantValue.{const_of}
use Rattle.mysql_wire.specs.Flags.{StmtBulkExecuteFlags}
use Rattle.mysql_wire.specs.declared.little_endian.LeU16.{LeU16}
use Rattle.mysql_commands.specs.declared.bulk_execute.ComStmtBulkExecuteRef.{ComStmtBulkExecuteRef}
use Rattle.mysql_wire.specs.declared.bulk_header.InvalidComStmtBulkExecuteHeader.{InvalidComStmtBulkExecuteHeader}

abbrev pub stmt_id : ComStmtBulkExecuteRef → ℕ
stmt_id p = p.stmt_id

abbrev pub bulk_flags : ComStmtBulkExecuteRef → StmtBulkExecuteFlags
bulk_flags p = p.bulk_flags

abbrev pub rows : ComStmtBulkExecuteRef → List ℕ
rows p = p.rows

abbrev pub bulk_execute_of : ℕ → StmtBulkExecuteFlags → List ℕ → ComStmtBulkExecuteRef
bulk_execute_of stmt_id bulk_flags rows = record { stmt_id = stmt_id; bulk_flags = bulk_flags; rows = rows }

-- fa, the statement's number, the flags, and to the end the types, if they are sent, and the rows
abbrev pub bulk_execute_fields : Fields (Unit {0}) ComStmtBulkExecuteRef ComStmtBulkExecuteRef
bulk_execute_fields = do
  header ← field (λ p. record { 0 = record {} }) (const_u8 {T = InvalidComStmtBulkExecuteHeader} COM_STMT_BULK_EXECUTE)
  stmt_id ← field (λ p. raw_int p.stmt_id) u32
  bulk_flags ← field (λ p. const_of p.bulk_flags) (flags {U = LeU16} 2)
  rows ← field rows string_eof
  give (bulk_execute_of stmt_id.0 bulk_flags.0 rows)

unfoldable pub bulk_execute : Codec (Unit {0}) ComStmtBulkExecuteRef
bulk_execute = packet bulk_execute_fields (λ p. refl)
