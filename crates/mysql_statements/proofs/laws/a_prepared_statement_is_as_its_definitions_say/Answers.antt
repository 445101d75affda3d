use Rattle.mysql_statements.proofs.Runs.{run_prepared}
use Rattle.mysql_statements.proofs.laws.a_prepared_statement_is_as_its_definitions_say.Goals as goal

pub returns : goal.returns
returns c = run_prepared
