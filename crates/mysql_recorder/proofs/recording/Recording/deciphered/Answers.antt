use Rattle.std.proofs.Common.{refl, sym, subst}
use Rattle.mysql_recorder.specs.Recorded.{Recorded}
use Rattle.mysql_recorder.proofs.Goes.{still_recorded}
use Rattle.mysql_recorder.proofs.recording.Recording.deciphered.Goals as goal

pub returns-clause-recorded : goal.returns-clause-recorded
returns-clause-recorded c = λ text items h.
    subst (λ s. Recorded (record c.args.self { sides = s }) text items) (sym c.tls_established.ensures) (still_recorded c.args.self _ text items refl h)
