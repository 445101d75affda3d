use Rattle.mysql_bulk.proofs.StreamedRows.{streamed_fewest, stream_refused}
use Rattle.mysql_bulk.proofs.laws.streamed_rows_are_sent_in_the_fewest_requests.Goals as goal

pub returns-clause-all : goal.returns-clause-all
returns-clause-all c = streamed_fewest

pub returns-clause-refused : goal.returns-clause-refused
returns-clause-refused c = stream_refused
