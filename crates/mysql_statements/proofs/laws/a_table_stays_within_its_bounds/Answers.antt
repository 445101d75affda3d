use Rattle.mysql_statements.proofs.Bounds.{within_after}
use Rattle.mysql_statements.proofs.laws.a_table_stays_within_its_bounds.Goals as goal

pub returns : goal.returns
returns c = within_after
