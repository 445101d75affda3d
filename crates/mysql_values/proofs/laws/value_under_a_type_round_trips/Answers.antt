use Rattle.mysql_values.proofs.UnderType.{under-again}
use Rattle.mysql_values.proofs.laws.value_under_a_type_round_trips.Goals as goal

pub returns-clause-read : goal.returns-clause-read
returns-clause-read c = under-again
