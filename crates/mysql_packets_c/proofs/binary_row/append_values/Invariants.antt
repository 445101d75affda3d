use Rattle.std.proofs.Common.{◌≡◌, length, drop}
use Rattle.mysql_stmt.specs.BinaryRow.{values_bytes}
use Rattle.mysql_stmt.specs.ExecuteParam.{contents}
use Rattle.mysql_packets_c.specs.ColumnType.{type_of, unsigned_of}
use Rattle.mysql_packets_c.specs.Execution.{param}
use Rattle.mysql_packets_c.proofs.Appends.{IsLeft}
use Rattle.mysql_packets_c.proofs.binary_row.append_values.Given as goal

abbrev pub invariant-loop-place : goal.invariant-loop-place
invariant-loop-place g l =
    let cells = values_bytes type_of unsigned_of in
    record {
      lengths : length l.columns ≡ length l.values;
      cells : IsLeft g.O.Buffer.held g.O.Buffer.after g.O.Buffer.capacity g.O.Buffer.kept (cells l.columns (contents param l.values)) (cells (drop l.place l.columns) (contents param (drop l.place l.values))) l.fn.out l.bytes;
    }
