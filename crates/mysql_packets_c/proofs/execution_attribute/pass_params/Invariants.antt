use Rattle.std.proofs.Common.{◌≡◌, ◌+◌, length}
use Rattle.mysql_packets_c.specs.Execution.{KeepsRest, last_left}
use Rattle.mysql_packets_c.proofs.execution_attribute.pass_params.Given as goal

abbrev pub invariant-loop-place : goal.invariant-loop-place
invariant-loop-place l = record {
  count : l.place + l.sent.left ≡ length l.params;
  rest : KeepsRest (last_left l.fn.sent l.params) (last_left l.sent l.params);
}
