use Rattle.std.proofs.Common.{◌≡◌, ℕ, List, Ok, length, subst, take, rules}
use Rattle.mysql_packets_c.specs.BulkRow.{ReadsRow, bulk_row}
use Rattle.mysql_packets_c.proofs.ReadBulkRows.{contents-into}
use Rattle.mysql_packets_c.proofs.bulk_row.myp_next_bulk_row.Goals as goal

pub returns-in-Ok-clause-contents : goal.returns-in-Ok-clause-contents
returns-in-Ok-clause-contents c = λ some columns fits fits_indicators.
    let types = c.args.types.now in
    let values = take (length types) c.fill_row.new.values in
    let indicators = take (length types) c.fill_row.new.indicators in
    let left : c.move_to.new.self.bytes.now ≡ c.fill_row.new.buf = search rules in
    let read : ReadsRow (Ok tt) values indicators c.fill_row.new.buf ((bulk_row types).reads c.args.rest.now.bytes.now) =
    subst (λ (bytes : List ℕ). ReadsRow (Ok tt) values indicators c.fill_row.new.buf ((bulk_row types).reads bytes)) c.new-buf.ensures c.in-Ok.ensures.value in
    contents-into types c.args.rest.now.bytes.now values indicators c.fill_row.new.buf c.move_to.new.self.bytes.now read left
