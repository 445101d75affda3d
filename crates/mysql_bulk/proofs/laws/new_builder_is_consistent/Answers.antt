use Rattle.mysql_bulk.proofs.WholeRun.{new_consistent}
use Rattle.mysql_bulk.proofs.laws.new_builder_is_consistent.Goals as goal

pub returns : goal.returns
returns c = new_consistent
