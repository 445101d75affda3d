use Rattle.std.proofs.Common.{◌≡◌, ◌++◌, ◌+◌, ◌≤◌, length, map, vec_len, vec_capacity}
use Rattle.std.specs.Vec.Iter.{into_iter_items}
use Rattle.mysql_values.specs.Value.{contents_of}
use Rattle.mysql_bulk.specs.ParamValue.{with_indicator}
use Rattle.mysql_bulk.proofs.param_values.StmtBulkExecuteParamValues.new.Given as goal

abbrev pub invariant-loop-value : goal.invariant-loop-value
invariant-loop-value l = record {
  moved : l.row.items ++ map with_indicator (contents_of (into_iter_items l.value-iterator)) ≡ l.initial.row.items ++ map with_indicator (contents_of (into_iter_items l.initial.value-iterator));
  capacity : vec_len l.row + length (into_iter_items l.value-iterator) ≤ vec_capacity l.row;
}
