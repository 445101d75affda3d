use Rattle.std.proofs.Common.{◌≡◌, drop}
use Rattle.mysql_wire.specs.Each.{each}
use Rattle.mysql_wire.proofs.Counted.{with_front}
use Rattle.mysql_values.specs.Value.{contents_of}
use Rattle.mysql_bulk.specs.ReadRows.{content_of_column, row_of_columns}
use Rattle.mysql_bulk.proofs.read_rows.read_row.Given as goal

abbrev pub invariant-loop-column : goal.invariant-loop-column
invariant-loop-column l = with_front (contents_of l.row.items) ((each content_of_column l.column-index (drop l.column-index l.columns)).reads l.rest) ≡ (row_of_columns l.columns).reads l.fn.buf
