-- The command `sid`.
use Rattle.std.specs.Prelude.{◌≡◌, ℕ, List, [], Result, Ok, Err, codes}
use Rattle.mysql_repl.specs.declared.sid.Sid.{Sid}
use Rattle.mysql_repl.specs.declared.sid_text.InvalidSid.{InvalidSid}
use Rattle.mysql_repl.specs.declared.sid_text.InvalidSid.TheVariants as invalid
use Rattle.mysql_repl.specs.SidText.{read_sid}
use Rattle.mysql_program.specs.Answer.{Answer, done, refused_by}
use Rattle.mysql_program.specs.Gtid.{sid_line}

abbrev pub sid_refusal_name : InvalidSid → List ℕ
sid_refusal_name invalid.NoColon = codes "NoColon"
sid_refusal_name invalid.Uuid = codes "Uuid"
sid_refusal_name invalid.Empty = codes "Empty"
sid_refusal_name (invalid.Tag e) = codes "Tag"
sid_refusal_name invalid.NoIntervals = codes "NoIntervals"
sid_refusal_name invalid.Parts = codes "Parts"
sid_refusal_name invalid.Number = codes "Number"
sid_refusal_name invalid.TooLarge = codes "TooLarge"
sid_refusal_name (invalid.Gno e) = codes "Gno"
sid_refusal_name invalid.Memory = codes "Memory"

-- the error's name; a failed allocation is another case
abbrev pub IsSidRefusal : InvalidSid → Answer → Type 0
IsSidRefusal invalid.Memory answer = ⊥
IsSidRefusal e answer = answer ≡ refused_by [] (sid_refusal_name e)

-- the sid in its canonical text, or the error's name
abbrev pub sid_text_answer : Result Sid InvalidSid → Answer
sid_text_answer (Ok s) = done (sid_line s)
sid_text_answer (Err e) = refused_by [] (sid_refusal_name e)

abbrev pub sid_answer : List ℕ → Answer
sid_answer text = sid_text_answer (read_sid text)
