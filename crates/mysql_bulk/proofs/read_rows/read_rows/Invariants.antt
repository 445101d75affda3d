use Rattle.std.proofs.Common.{◌≡◌, length}
use Rattle.mysql_wire.specs.Many.{many}
use Rattle.mysql_wire.proofs.Counted.{with_front}
use Rattle.mysql_bulk.specs.Row.{contents_of_rows}
use Rattle.mysql_bulk.specs.ReadRows.{row_of_columns}
use Rattle.mysql_bulk.proofs.read_rows.read_rows.Given as goal

abbrev pub invariant-loop-rest : goal.invariant-loop-rest
invariant-loop-rest l = with_front (contents_of_rows l.rows.items) ((many (row_of_columns l.columns)).reads l.rest) ≡ (many (row_of_columns l.columns)).reads l.fn.buf

abbrev pub decreases-loop-rest : goal.decreases-loop-rest
decreases-loop-rest l = length l.rest
