use Rattle.mysql_values.specs.Value.{bin}
use Rattle.mysql_values.specs.ValueDeserializer.{bin_value}
use Rattle.std.proofs.Common.{◌++◌}
use Rattle.mysql_values.proofs.ValueAgain.{value-again, agrees-by_type}
use Rattle.mysql_values.proofs.laws.value_round_trips.Goals as goal

pub returns-clause-agrees : goal.returns-clause-agrees
returns-clause-agrees c = agrees-by_type

pub returns-clause-spelled : goal.returns-clause-spelled
returns-clause-spelled c = value-again

pub returns-clause-read : goal.returns-clause-read
returns-clause-read c = λ type u content rest h. (bin_value type u).only content (bin content ++ rest) rest (value-again type u content rest h)
