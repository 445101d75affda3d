use Rattle.std.proofs.Common.{[], map}
use Rattle.mysql_bulk.specs.Head.{column_of_type}
use Rattle.mysql_bulk.specs.Request.{request_bytes}
use Rattle.mysql_bulk.specs.ReadRows.{bulk_rows}
use Rattle.mysql_bulk.specs.ReadingBack.{row_under}
use Rattle.mysql_bulk.proofs.ReadingDeclared.{declared_again}
use Rattle.mysql_bulk.proofs.laws.rows_under_declared_types_round_trips.Goals as goal

pub returns : goal.returns
returns c = λ s types rows request r p. (bulk_rows (map column_of_type types)).only (map (row_under types) rows) (request_bytes request) [] (declared_again s types rows request r p)
