use Rattle.std.proofs.Common.{drop, get_or, ◌+◌}
use Rattle.mysql_packets_c.specs.Bulk.{row_bytes, value_bytes}
use Rattle.mysql_packets_c.proofs.Appends.{one-written, piece-fits}
use Rattle.mysql_packets_c.proofs.BinaryRows.{no_column, no_value}
use Rattle.mysql_packets_c.proofs.BulkCells.{bytes-from}
use Rattle.mysql_packets_c.proofs.bulk_cell.append_row.Goals as goal

pub append_value-requires : goal.append_value-requires
append_value-requires g c =
    let i = c.loop-place.place in
    let columns = c.args.columns.now in
    let row = c.args.row.now in
    let parts = bytes-from columns row i no_column no_value c.requires.lengths c.loop-place-test.true in
    piece-fits (value_bytes (get_or columns i no_column) (get_or row i no_value)) (row_bytes (drop (i + 1) columns) (drop (i + 1) row)) c.loop-place.invariant parts c.requires.capacity

pub loop-place-preserved : goal.loop-place-preserved
loop-place-preserved g c =
    one-written c.loop-place.invariant (bytes-from c.args.columns.now c.args.row.now c.loop-place.place no_column no_value c.requires.lengths c.loop-place-test.true) c.append_value.ensures
