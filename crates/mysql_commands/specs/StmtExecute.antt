-- An execution: its head, and the rest as bytes.
use Rattle.std.specs.Prelude.{List, ℕ, refl}
use Rattle.mysql_wire.specs.Codecs.{Codec, Fields, ◌>>=◌, give, field, packet, string_eof}
use Rattle.mysql_stmt.specs.ExecuteHead.{execute_head}
use Rattle.mysql_stmt.specs.declared.execute_head.ComStmtExecuteHead.{ComStmtExecuteHead}
use Rattle.mysql_commands.specs.declared.stmt_execute.ComStmtExecuteRef.{ComStmtExecuteRef}

abbrev pub head : ComStmtExecuteRef → ComStmtExecuteHead
head p = p.head

abbrev pub params : ComStmtExecuteRef → List ℕ
params p = p.params

abbrev pub stmt_execute_of : ComStmtExecuteHead → List ℕ → ComStmtExecuteRef
stmt_execute_of head params = record { head = head; params = params }

-- the head, and the parameters to the end
abbrev pub stmt_execute_fields : Fields (Unit {0}) ComStmtExecuteRef ComStmtExecuteRef
stmt_execute_fields = do
  head ← field head execute_head
  params ← field params string_eof
  give (stmt_execute_of head params)

unfoldable pub stmt_execute : Codec (Unit {0}) ComStmtExecuteRef
stmt_execute = packet stmt_execute_fields (λ p. refl)
