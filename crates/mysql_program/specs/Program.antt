-- The program's answer to its arguments.
use Rattle.std.specs.Prelude.{◌≡◌, ◌⊎◌, ℕ, List, true, false, Option, Some, None}
use Rattle.std.specs.Io.KnownBytes.{Keeps}
use Rattle.mysql_show.specs.Output.{IsWritten}
use Rattle.mysql_program.specs.declared.command.Command.{Command}
use Rattle.mysql_program.specs.declared.command.Command.TheVariants as command
use Rattle.mysql_program.specs.Answer.{Answer, usage, out_of_memory}
use Rattle.mysql_program.specs.Command.{reads_input}
use Rattle.mysql_program.specs.Input.{GaveAll}
use Rattle.mysql_program.specs.StmtLines.{stmt_answer}
use Rattle.mysql_program.specs.Infile.{infile_answer}
use Rattle.mysql_program.specs.ColumnLines.{column_answer}
use Rattle.mysql_program.specs.HandshakeLines.{IsHandshakeAnswer}
use Rattle.mysql_program.specs.Gtid.{gtid_answer}
use Rattle.mysql_program.specs.SidLines.{sid_answer}
use Rattle.mysql_program.specs.GtidSetLines.{gtid_set_answer}
use Rattle.mysql_program.specs.Ok.{ok_answer}
use Rattle.mysql_program.specs.Err.{err_answer}
use Rattle.mysql_program.specs.Bulk.{IsBulkAnswer}

-- a read failed, the status is 3, and nothing was written
abbrev pub IsUnread : Option (List ℕ) → Option (List ℕ) → ℕ → Type 0
IsUnread old new status = Keeps old new × (status ≡ 3)

-- the answer to a command on an input, which only `bulk` reads
abbrev pub AnswersCommand : Command → List ℕ → Answer → Type 0
AnswersCommand (command.Stmt bytes) input answer = answer ≡ stmt_answer bytes
AnswersCommand (command.Infile bytes) input answer = answer ≡ infile_answer bytes
AnswersCommand (command.Column bytes) input answer = answer ≡ column_answer bytes
AnswersCommand (command.Handshake bytes) input answer = IsHandshakeAnswer bytes answer
AnswersCommand (command.Gtid bytes) input answer = answer ≡ gtid_answer false bytes
AnswersCommand (command.GtidStrict bytes) input answer = answer ≡ gtid_answer true bytes
AnswersCommand (command.Sid text) input answer = answer ≡ sid_answer text
AnswersCommand (command.GtidSet text) input answer = answer ≡ gtid_set_answer text
AnswersCommand (command.Ok kind capabilities bytes layout) input answer = answer ≡ ok_answer kind capabilities layout bytes
AnswersCommand (command.Err capabilities bytes) input answer = answer ≡ err_answer capabilities bytes
AnswersCommand (command.Bulk call) input answer = IsBulkAnswer call input answer

-- a command's answer was written, for all of the reader's input if the command reads any
pub record IsCommandAnswered (c : Command) (before after old new : Option (List ℕ)) (status : ℕ) : Type 0 where
  pub input : List ℕ
  pub read : reads_input (Some c) ≡ true → GaveAll before after input
  pub answer : Answer
  pub answers : AnswersCommand c input answer
  pub written : IsWritten answer old new status

-- a bad call's answer; or a command's answer, or that of a failed allocation, or the input was not read
abbrev pub IsAnswered : Option Command → Option (List ℕ) → Option (List ℕ) → Option (List ℕ) → Option (List ℕ) → ℕ → Type 0
IsAnswered None before after old new status = IsWritten usage old new status
IsAnswered (Some c) before after old new status =
    IsCommandAnswered c before after old new status ⊎ IsWritten out_of_memory old new status ⊎ ((reads_input (Some c) ≡ true) × IsUnread old new status)
