-- The command `infile`.
use Rattle.std.specs.Prelude.{ℕ, List, ◌++◌}
use Rattle.mysql_replies.specs.declared.local_infile.LocalInfilePacket.{LocalInfilePacket}
use Rattle.mysql_replies.specs.LocalInfile.{local_infile}
use Rattle.mysql_show.specs.FieldText.{lines_of}
use Rattle.mysql_show.specs.Replies.{infile_fields}
use Rattle.mysql_program.specs.Lines.{end_lines}
use Rattle.mysql_program.specs.Answer.{Answer, of_reading}

abbrev pub infile_lines : LocalInfilePacket → ℕ → List ℕ
infile_lines p rest = lines_of (infile_fields p) ++ end_lines rest (local_infile.bytes p)

abbrev pub infile_answer : List ℕ → Answer
infile_answer bytes = of_reading infile_lines ((local_infile.form tt).reads bytes)
