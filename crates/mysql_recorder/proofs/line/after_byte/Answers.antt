use Rattle.std.proofs.Common.{◌≡◌, ◌⊎◌, rules}
use Rattle.mysql_recorder.proofs.Lines.{stands_space, stands_half}
use Rattle.mysql_recorder.proofs.line.after_byte.Goals as goal

pub returns-in-32-clause-goes_on : goal.returns-in-32-clause-goes_on
returns-in-32-clause-goes_on c = λ line before h. let s : (c.args.byte ≡ 32) ⊎ (c.args.byte ≡ 13) = search rules in stands_space c.args.side line before c.args.byte h s

pub returns-in-Some-clause-goes_on : goal.returns-in-Some-clause-goes_on
returns-in-Some-clause-goes_on c = λ line before h. stands_half c.args.side line before c.args.byte c.in-Some.high h c.in-Some.ensures.digit.0 c.in-Some.ensures.digit.1
