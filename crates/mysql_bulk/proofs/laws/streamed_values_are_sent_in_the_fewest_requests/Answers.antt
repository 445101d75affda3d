use Rattle.mysql_bulk.proofs.StreamedCells.{cells_refused, cells_sent}
use Rattle.mysql_bulk.proofs.ValueRows.{holds_none}
use Rattle.mysql_bulk.proofs.laws.streamed_values_are_sent_in_the_fewest_requests.Goals as goal

pub returns-clause-all : goal.returns-clause-all
returns-clause-all c = cells_sent

pub returns-clause-refused : goal.returns-clause-refused
returns-clause-refused c = cells_refused

pub returns-clause-new : goal.returns-clause-new
returns-clause-new c = holds_none
