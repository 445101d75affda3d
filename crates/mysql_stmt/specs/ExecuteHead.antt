-- The head of an execution: what precedes its parameters.
use Rattle.std.specs.Prelude.{ℕ, Bool, refl}
use Rattle.bitflags.specs.Sets.{without}
use Rattle.mysql_wire.specs.CommandCodes.{COM_STMT_EXECUTE}
use Rattle.mysql_wire.specs.FlagMasks.{PARAMETER_COUNT_AVAILABLE}
use Rattle.mysql_wire.specs.Codecs.{Codec, Fields, ◌>>=◌, give, field, block, packet, const_u8, u32, flags, raw_int}
use Rattle.mysql_wire.specs.ConstantValue.{const_of}
use Rattle.mysql_wire.specs.Flags.{CursorType, has}
use Rattle.mysql_stmt.specs.declared.execute_head.ComStmtExecuteHead.{ComStmtExecuteHead}

-- ---- fields

abbrev pub stmt_id : ComStmtExecuteHead → ℕ
stmt_id h = h.stmt_id.0

abbrev pub cursor_flags : ComStmtExecuteHead → ℕ
cursor_flags h = h.flags.0.0

-- the flags, except for PARAMETER_COUNT_AVAILABLE
abbrev pub cursor : ComStmtExecuteHead → ℕ
cursor h = without 8 (cursor_flags h) PARAMETER_COUNT_AVAILABLE

abbrev pub has_parameter_count : ComStmtExecuteHead → Bool
has_parameter_count h = has (cursor_flags h) PARAMETER_COUNT_AVAILABLE

abbrev pub iteration_count : ComStmtExecuteHead → ℕ
iteration_count h = h.iteration_count.0

abbrev pub with_count : ℕ → ComStmtExecuteHead → ComStmtExecuteHead
with_count count h = record h { iteration_count = raw_int count }

-- ---- bytes

-- 17, the statement's number, the flags, and the iteration count
abbrev pub execute_head_fields : Fields (Unit {0}) ComStmtExecuteHead ComStmtExecuteHead
execute_head_fields = do
  header ← field (λ h. h.header) (const_u8 COM_STMT_EXECUTE)
  stmt_id ← field (λ h. h.stmt_id) u32
  flags ← field (λ h. h.flags) (flags 1)
  iteration_count ← field (λ h. h.iteration_count) u32
  give (record { header = header; stmt_id = stmt_id; flags = flags; iteration_count = iteration_count })

-- ten bytes
unfoldable pub execute_head : Codec (Unit {0}) ComStmtExecuteHead
execute_head = packet (block 10 execute_head_fields (λ h. refl)) (λ h. refl)

-- the head of an execution of this statement, with these flags
abbrev pub head_with : ℕ → CursorType → ComStmtExecuteHead
head_with stmt_id flags =
    record { header = record { 0 = record {} }; stmt_id = raw_int stmt_id; flags = const_of flags; iteration_count = raw_int 1 }

-- the same, without a cursor
abbrev pub head_without_cursor : ℕ → ComStmtExecuteHead
head_without_cursor stmt_id = head_with stmt_id (record { 0 = 0; 1 = record {} })
