use Rattle.mysql_statements.proofs.Runs.{run_left_out}
use Rattle.mysql_statements.proofs.laws.rows_without_definitions_have_the_columns_of_their_statement.Goals as goal

pub returns : goal.returns
returns c = run_left_out
