-- The command `column`.
use Rattle.std.specs.Prelude.{ℕ, List, ◌++◌}
use Rattle.mysql_replies.specs.declared.column.Column.{Column}
use Rattle.mysql_replies.specs.Column.{column}
use Rattle.mysql_show.specs.Columns.{column_names, column_numbers}
use Rattle.mysql_show.specs.FieldText.{lines_of}
use Rattle.mysql_program.specs.Lines.{end_lines}
use Rattle.mysql_program.specs.Answer.{Answer, of_reading}

abbrev pub column_lines : Column → ℕ → List ℕ
column_lines c rest = (lines_of (column_names c) ++ lines_of (column_numbers c)) ++ end_lines rest (column.bytes c)

abbrev pub column_answer : List ℕ → Answer
column_answer bytes = of_reading column_lines ((column.form tt).reads bytes)
