use Rattle.std.proofs.Common.{◌++◌}
use Rattle.mysql_values.specs.ParamType.{param_type}
use Rattle.mysql_values.proofs.laws.param_type_round_trips.Goals as goal

pub returns-clause-spelled : goal.returns-clause-spelled
unfolding param_type
returns-clause-spelled c = λ t rest lt. param_type.again tt t rest (tt, (lt, tt))

pub returns-clause-read : goal.returns-clause-read
unfolding param_type
returns-clause-read c = λ t rest lt. (param_type.form tt).only t (param_type.bytes t ++ rest) rest (param_type.again tt t rest (tt, (lt, tt)))
