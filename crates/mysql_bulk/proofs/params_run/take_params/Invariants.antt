use Rattle.std.proofs.Common.{◌+◌, ◌≤◌, length, None}
use Rattle.std.specs.Iterator.{size}
use Rattle.mysql_bulk.specs.ParamsRun.{GivesRowOfParams}
use Rattle.mysql_bulk.proofs.RunSteps.{Taken}
use Rattle.mysql_bulk.proofs.params_run.take_params.Given as goal

abbrev pub invariant-loop-entry : goal.invariant-loop-entry
invariant-loop-entry g l = record {
  can : (goal.iterator-loop-entry g).can_next l.params;
  ends : (goal.iterator-loop-entry g).is_finite l.params;
  so_far : Taken (GivesRowOfParams g.I.Iterator.next_gives l.fn.builder.state.names) l.fn.builder.state (None, l.fn.params) l.builder.state (None, l.params);
  less : length l.builder.state.waiting + size (g.I.Iterator.remaining l.params) ≤ length l.fn.builder.state.waiting + size (g.I.Iterator.remaining l.fn.params);
}
