use Rattle.std.proofs.Common.{refl, sym, subst}
use Rattle.mysql_recorder.specs.Recorded.{Recorded}
use Rattle.mysql_recorder.proofs.Goes.{still_recorded}
use Rattle.mysql_recorder.proofs.recording.Recording.with_sums.Goals as goal

pub returns-clause-recorded : goal.returns-clause-recorded
returns-clause-recorded c = λ text items h.
    subst (λ s. Recorded (record c.args.self { sides = s }) text items) (sym c.sum.ensures.same) (still_recorded c.args.self _ text items refl h)
