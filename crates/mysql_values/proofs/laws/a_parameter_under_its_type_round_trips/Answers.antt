use Rattle.mysql_values.proofs.ParamAgain.{param-again}
use Rattle.mysql_values.proofs.laws.a_parameter_under_its_type_round_trips.Goals as goal

pub returns-clause-read : goal.returns-clause-read
returns-clause-read c = param-again
