use Rattle.mysql_bulk.proofs.RequestBytes.{length-request}
use Rattle.mysql_bulk.proofs.laws.request_has_its_size.Goals as goal

pub returns : goal.returns
returns c = length-request
