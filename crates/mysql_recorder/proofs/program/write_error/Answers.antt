use Rattle.std.proofs.Common.{[], inl, inr, refl, subst, string_bytes}
use Rattle.std.proofs.KnownBytes.{Appends-nil}
use Rattle.mysql_recorder.specs.Answers.{memory_line}
use Rattle.mysql_show.specs.Output.{IsFront}
use Rattle.mysql_recorder.proofs.Fed.{says_name, says_none}
use Rattle.mysql_recorder.proofs.program.write_error.Goals as goal

pub returns-in_default : goal.returns-in_default
returns-in_default g c = ([], says_none c.args.shown_in c.args.error c.in_default.ensures, Appends-nil (g.W.Write.contents c.args.writer.now))

pub returns-in-Ok : goal.returns-in-Ok
returns-in-Ok g c = (
  string_bytes c.in-Ok.line,
  says_name c.args.shown_in c.args.error c.in-Some.name.now (string_bytes c.in-Ok.line) c.in-Some.ensures (inl c.in-Ok.ensures),
  subst (λ t. IsFront c.write_front.result t (g.W.Write.contents c.args.writer.now) (g.W.Write.contents c.write_front.new.writer)) c.as_bytes.ensures.value c.write_front.ensures.front,
)

pub returns-in-Err : goal.returns-in-Err
returns-in-Err g c = (memory_line, says_name c.args.shown_in c.args.error c.in-Some.name.now memory_line c.in-Some.ensures (inr refl), c.write_front-in-Err.ensures.front)
