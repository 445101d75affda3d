use Rattle.std.proofs.Common.{◌++◌}
use Rattle.mysql_bulk.specs.Request.{request_bytes}
use Rattle.mysql_bulk.specs.RequestForm.{bulk_request}
use Rattle.mysql_bulk.proofs.ReadingBack.{one_row-again}
use Rattle.mysql_bulk.proofs.laws.request_of_one_row_round_trips.Goals as goal

pub returns : goal.returns
returns c = record {
  spelled = λ columns request rest f. one_row-again columns request f rest;
  read = λ columns request rest f. (bulk_request columns).only request (request_bytes request ++ rest) rest (one_row-again columns request f rest);
}
