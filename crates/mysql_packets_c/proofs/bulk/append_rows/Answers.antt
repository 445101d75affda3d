use Rattle.std.proofs.Common.{List, ◌++◌, ◌+◌, ap, ◌∙◌, sym}
use Rattle.mysql_packets_c.specs.Bulk.{row_bytes, rows_from}
use Rattle.mysql_packets_c.specs.declared.value.CValue.{CValue}
use Rattle.mysql_packets_c.proofs.Appends.{one-written, piece-fits}
use Rattle.mysql_packets_c.proofs.BulkRows.{rows-from-next}
use Rattle.mysql_packets_c.proofs.bulk.append_rows.Goals as goal

pub append_row-requires-clause-capacity : goal.append_row-requires-clause-capacity
append_row-requires-clause-capacity g c =
    let n = c.loop-place.place in
    let types = c.args.columns.now in
    let rest = rows_from types c.args.count (n + 1) c.args.values.now in
    let parts = rows-from-next types c.args.count n c.args.values.now c.loop-place-test.true ∙ ap (λ (row : List CValue). row_bytes types row ++ rest) (sym c.row_after.ensures) in
    piece-fits (row_bytes types c.row_after.result.now) rest c.loop-place.invariant parts c.requires.capacity

pub loop-place-preserved : goal.loop-place-preserved
loop-place-preserved g c =
    let n = c.loop-place.place in
    let types = c.args.columns.now in
    let rest = rows_from types c.args.count (n + 1) c.args.values.now in
    let parts = rows-from-next types c.args.count n c.args.values.now c.loop-place-test.true ∙ ap (λ (row : List CValue). row_bytes types row ++ rest) (sym c.row_after.ensures) in
    one-written c.loop-place.invariant parts c.append_row.ensures
