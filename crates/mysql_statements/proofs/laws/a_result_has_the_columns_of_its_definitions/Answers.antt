use Rattle.mysql_statements.proofs.Results.{run_definitions}
use Rattle.mysql_statements.proofs.laws.a_result_has_the_columns_of_its_definitions.Goals as goal

pub returns : goal.returns
returns c = run_definitions
