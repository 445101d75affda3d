use Rattle.mysql_bulk.proofs.CollectedRows.{all_collected, row_ends, copy_ends}
use Rattle.mysql_bulk.proofs.laws.collected_rows_are_sent_in_the_fewest_requests.Goals as goal

pub returns-clause-all : goal.returns-clause-all
returns-clause-all c = all_collected

pub returns-clause-refused : goal.returns-clause-refused
returns-clause-refused c = row_ends

pub returns-clause-copy_refused : goal.returns-clause-copy_refused
returns-clause-copy_refused c = copy_ends
