use Rattle.std.proofs.Common.{◌≡◌, ◌+◌, ◌++◌, length, drop, map, take}
use Rattle.std.specs.List.{AllZip}
use Rattle.mysql_packets_c.specs.Value.{IsSet, param_content}
use Rattle.mysql_packets_c.specs.Execution.{KeepsRest, contents_of, last_left, types_of}
use Rattle.mysql_packets_c.proofs.execution.fill_params.Given as goal

abbrev pub invariant-loop-place : goal.invariant-loop-place
invariant-loop-place l = record {
  count : l.place + l.sent.left ≡ length l.params;
  contents : contents_of (last_left l.fn.sent l.params).params ≡ map param_content (take l.place l.values) ++ contents_of (last_left l.sent l.params).params;
  types : types_of (last_left l.fn.sent l.params).params ≡ take l.place l.types ++ types_of (last_left l.sent l.params).params;
  rest : KeepsRest (last_left l.fn.sent l.params) (last_left l.sent l.params);
  value_places : length l.values ≡ length l.fn.values;
  type_places : length l.types ≡ length l.fn.types;
  set : AllZip IsSet (take l.place l.fn.values) (take l.place l.values);
  other_values : drop l.place l.values ≡ drop l.place l.fn.values;
  other_types : drop l.place l.types ≡ drop l.place l.fn.types;
}
