use Rattle.mysql_repl.proofs.SidSpelled.{sid-spelled, spelled-one}
use Rattle.mysql_repl.proofs.laws.sid_text_is_spelled.Goals as goal

pub returns-clause-one : goal.returns-clause-one
returns-clause-one c = spelled-one

pub returns-clause-read : goal.returns-clause-read
returns-clause-read c = sid-spelled
