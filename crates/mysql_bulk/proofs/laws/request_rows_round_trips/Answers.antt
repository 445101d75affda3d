use Rattle.std.proofs.Common.{[]}
use Rattle.mysql_bulk.specs.Request.{request_bytes}
use Rattle.mysql_bulk.specs.ReadRows.{bulk_rows}
use Rattle.mysql_bulk.proofs.ReadingBack.{request_again}
use Rattle.mysql_bulk.proofs.laws.request_rows_round_trips.Goals as goal

pub returns : goal.returns
returns c = record {
  spelled = request_again;
  read = λ columns request rows f. (bulk_rows columns).only rows (request_bytes request) [] (request_again columns request rows f);
}
