use Rattle.mysql_bulk.proofs.RequestBytes.{size_of_rows}
use Rattle.mysql_bulk.proofs.laws.request_has_the_size_of_its_rows.Goals as goal

pub returns : goal.returns
returns c = size_of_rows
