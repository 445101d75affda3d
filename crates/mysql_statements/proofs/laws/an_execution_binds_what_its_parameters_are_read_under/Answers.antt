use Rattle.mysql_statements.proofs.Fronts.{execution_binds, execution_keeps}
use Rattle.mysql_statements.proofs.laws.an_execution_binds_what_its_parameters_are_read_under.Goals as goal

pub returns-clause-binds : goal.returns-clause-binds
returns-clause-binds c = λ capabilities s p body rest h f head r. execution_binds capabilities s p body rest h head f r

pub returns-clause-read : goal.returns-clause-read
returns-clause-read c = execution_keeps
