use Rattle.std.proofs.Common.{◌≤◌, ◌++◌, List, drop}
use Rattle.mysql_bulk.specs.BulkValue.{Cell}
use Rattle.mysql_bulk.specs.ValueRows.{HoldsCells}
use Rattle.mysql_bulk.specs.ValuesRun.{bytes_of, cells_of_rows}
use Rattle.mysql_bulk.proofs.StreamedCells.{Going}
use Rattle.mysql_bulk.proofs.request_writer.BulkRequestWriter.send_all_values.Given as goal

abbrev pub invariant-loop-row : goal.invariant-loop-row
invariant-loop-row l = record {
  goes_on : (before : List (List Cell)) → HoldsCells l.fn.self before → Going l.fn.self (before ++ cells_of_rows l.rows) (cells_of_rows (drop l.row-index l.rows)) (bytes_of l.requests.items) l.self;
  capacity : l.fn.self.capacity ≤ l.self.capacity;
}
