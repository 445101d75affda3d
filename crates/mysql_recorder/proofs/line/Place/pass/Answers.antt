use Rattle.std.proofs.Common.{subst}
use Rattle.mysql_recorder.specs.Lines.{Stands}
use Rattle.mysql_recorder.proofs.Lines.{stands_value}
use Rattle.mysql_recorder.proofs.line.Place.pass.Goals as goal

pub returns-in-Some-clause-passes : goal.returns-in-Some-clause-passes
returns-in-Some-clause-passes c = λ line before h.
    stands_value c.in-Half.side line before c.in-Half.high c.args.byte c.in-Some.low (subst (λ at. Stands at line before) c.in-Half.is h) c.in-Some.ensures.digit.0 c.in-Some.ensures.digit.1
