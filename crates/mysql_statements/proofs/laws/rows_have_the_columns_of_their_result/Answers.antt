use Rattle.mysql_statements.proofs.Runs.{run_result}
use Rattle.mysql_statements.proofs.laws.rows_have_the_columns_of_their_result.Goals as goal

pub returns : goal.returns
returns c = run_result
