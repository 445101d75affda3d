use Rattle.std.proofs.Common.{◌≡◌, ◌+◌, ◌<◌, ◌^◌, length, drop}
use Rattle.mysql_wire.specs.Writing.{saturated}
use Rattle.mysql_stmt.specs.BinaryRow.{values_bytes}
use Rattle.mysql_stmt.specs.ExecuteParam.{contents}
use Rattle.mysql_stmt.proofs.binary_row.values_len.Given as goal

abbrev pub invariant-loop-place : goal.invariant-loop-place
invariant-loop-place g l =
    let bytes = values_bytes g.C.TypedColumn.type_of g.C.TypedColumn.unsigned in
    let held = contents g.V.AsExecuteParam.param in
    record {
      lengths : length l.columns ≡ length l.values;
      left : saturated (l.total + length (bytes (drop l.place l.columns) (held (drop l.place l.values)))) ≡ saturated (length (bytes l.columns (held l.values)));
      small : l.total < 2 ^ 64;
    }
