-- The command `stmt`.
use Rattle.std.specs.Prelude.{ℕ, List, ◌++◌}
use Rattle.mysql_stmt.specs.declared.stmt.StmtPacket.{StmtPacket}
use Rattle.mysql_stmt.specs.Stmt.{stmt}
use Rattle.mysql_show.specs.FieldText.{lines_of}
use Rattle.mysql_show.specs.Replies.{statement_fields}
use Rattle.mysql_program.specs.Lines.{end_lines}
use Rattle.mysql_program.specs.Answer.{Answer, of_reading}

abbrev pub stmt_lines : StmtPacket → ℕ → List ℕ
stmt_lines p rest = lines_of (statement_fields p) ++ end_lines rest (stmt.bytes p)

abbrev pub stmt_answer : List ℕ → Answer
stmt_answer bytes = of_reading stmt_lines ((stmt.form tt).reads bytes)
