use Rattle.std.proofs.Common.{◌≡◌, IsTrue, length, take, drop}
use Rattle.mysql_stmt.specs.BinaryRow.{takes_values}
use Rattle.mysql_stmt.proofs.binary_row.refused_at.Given as goal

abbrev pub invariant-loop-place : goal.invariant-loop-place
invariant-loop-place g l =
    let taken = takes_values g.C.TypedColumn.type_of g.C.TypedColumn.unsigned g.V.AsExecuteParam.param in
    record {
      lengths : length l.columns ≡ length l.values;
      left : taken l.columns l.values ≡ taken (drop l.place l.columns) (drop l.place l.values);
      before : IsTrue (taken (take l.place l.columns) (take l.place l.values));
    }
