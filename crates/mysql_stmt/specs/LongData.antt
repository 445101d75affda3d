-- The long data of one parameter, sent before an execution.
use Rattle.std.specs.Prelude.{ℕ, List, refl}
use Rattle.mysql_wire.specs.Codecs.{Codec, Fields, ◌>>=◌, give, field, packet, const_u8, u16, u32, string_eof, raw_int}
use Rattle.mysql_wire.specs.CommandCodes.{COM_STMT_SEND_LONG_DATA}
use Rattle.mysql_stmt.specs.declared.long_data.ComStmtSendLongData.{ComStmtSendLongData}

-- ---- fields

abbrev pub stmt_id : ComStmtSendLongData → ℕ
stmt_id p = p.stmt_id.0

abbrev pub param_index : ComStmtSendLongData → ℕ
param_index p = p.param_index.0

abbrev pub content : ComStmtSendLongData → List ℕ
content p = p.content

-- this data, for this parameter of this statement
abbrev pub long_data_of : ℕ → ℕ → List ℕ → ComStmtSendLongData
long_data_of stmt_id param_index content =
    record { header = record { 0 = record {} }; stmt_id = raw_int stmt_id; param_index = raw_int param_index; content = content }

-- ---- bytes

-- 18, the statement's number, the parameter's number, and the data to the end
abbrev pub long_data_fields : Fields (Unit {0}) ComStmtSendLongData ComStmtSendLongData
long_data_fields = do
  header ← field (λ p. p.header) (const_u8 COM_STMT_SEND_LONG_DATA)
  stmt_id ← field (λ p. p.stmt_id) u32
  param_index ← field (λ p. p.param_index) u16
  content ← field (λ p. p.content) string_eof
  give (record { header = header; stmt_id = stmt_id; param_index = param_index; content = content })

unfoldable pub long_data : Codec (Unit {0}) ComStmtSendLongData
long_data = packet long_data_fields (λ p. refl)
