use Rattle.std.proofs.Common.{inr, subst}
use Rattle.mysql_recorder.specs.Marks.{IsMark}
use Rattle.mysql_recorder.proofs.recording.Recording.take_last.Goals as goal

pub returns-in-Some-clause-loses : goal.returns-in-Some-clause-loses
returns-in-Some-clause-loses c = inr (c.if-self.true, subst IsMark c.as_slice.ensures.value c.in-Some.ensures.mark, c.lose_line.ensures.keeps.text)
