use Rattle.mysql_stmt.proofs.ExecutionAgain.{execution-again, execution-read, head-read}
use Rattle.mysql_stmt.proofs.laws.execution_round_trips.Goals as goal

pub returns-clause-head : goal.returns-clause-head
returns-clause-head c = head-read

pub returns-clause-spelled : goal.returns-clause-spelled
returns-clause-spelled c = λ caps bound h ps attributes s l rest is. execution-again caps bound h ps attributes s l is rest

pub returns-clause-read : goal.returns-clause-read
returns-clause-read c = execution-read
