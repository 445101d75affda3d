use Rattle.std.proofs.Common.{refl}
use Rattle.mysql_stmt.specs.StoredRow.{AreStored, stored_values}
use Rattle.mysql_stmt.proofs.stored_row.StoredRow.new.Goals as goal

pub invariant_of-result : goal.invariant_of-result
unfolding AreStored
invariant_of-result c = tt

pub returns-clause-values : goal.returns-clause-values
unfolding stored_values
returns-clause-values c = refl
