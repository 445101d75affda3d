use Rattle.std.proofs.Common.{◌≡◌, ◌++◌, ◌+◌, ◌≤◌, map, take, vec_len, vec_capacity}
use Rattle.mysql_values.specs.Value.{contents_of}
use Rattle.mysql_bulk.specs.Row.{values_size}
use Rattle.mysql_bulk.proofs.row.append_copies.Given as goal

abbrev pub invariant-loop-value : goal.invariant-loop-value
invariant-loop-value g l = record {
  size : l.left + values_size g.V.RowValue.content (take l.value-index l.row) ≡ l.fn.most;
  held : contents_of l.values.items ≡ contents_of l.initial.values.items ++ map g.V.RowValue.content (take l.value-index l.row);
  stay : take l.before l.values.items ≡ l.initial.values.items;
  length_is : vec_len l.values ≡ l.before + l.value-index;
  capacity : vec_capacity l.initial.values ≤ vec_capacity l.values;
}
