use Rattle.std.proofs.Common.{◌≡◌, ◌+◌, ◌++◌, length, drop, take}
use Rattle.mysql_packets_c.specs.Execution.{KeepsRest, last_left}
use Rattle.mysql_packets_c.specs.ExecutionNames.{held, names_of}
use Rattle.mysql_packets_c.proofs.execution_names.fill_names.Given as goal

abbrev pub invariant-loop-place : goal.invariant-loop-place
invariant-loop-place l = record {
  count : l.place + l.sent.left ≡ length l.params;
  names : names_of (last_left l.fn.sent l.params).params ≡ held (take l.place l.names) ++ names_of (last_left l.sent l.params).params;
  rest : KeepsRest (last_left l.fn.sent l.params) (last_left l.sent l.params);
  places : length l.names ≡ length l.fn.names;
  others : drop l.place l.names ≡ drop l.place l.fn.names;
}
