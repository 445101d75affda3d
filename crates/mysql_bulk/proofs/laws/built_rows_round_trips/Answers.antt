use Rattle.std.proofs.Common.{[]}
use Rattle.mysql_bulk.specs.Request.{request_bytes}
use Rattle.mysql_bulk.specs.ReadRows.{bulk_rows}
use Rattle.mysql_bulk.proofs.ReadingBack.{request_again, part_fits}
use Rattle.mysql_bulk.proofs.laws.built_rows_round_trips.Goals as goal

pub returns : goal.returns
returns c = λ s columns rows request r p. (bulk_rows columns).only rows (request_bytes request) [] (request_again columns request rows (part_fits s columns rows request r p))
