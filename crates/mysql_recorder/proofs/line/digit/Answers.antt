use Rattle.mysql_recorder.proofs.Lines.{lower_is_digit}
use Rattle.mysql_recorder.proofs.line.digit.Goals as goal

pub returns-in_default-clause-digit : goal.returns-in_default-clause-digit
returns-in_default-clause-digit c = lower_is_digit c.args.byte c.lower_digit.result c.lower_digit.ensures.digit
