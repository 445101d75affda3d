use Rattle.std.proofs.Common.{◌+◌, ◌≤◌, length, None}
use Rattle.std.specs.Iterator.{size}
use Rattle.mysql_bulk.proofs.RunSteps.{Taken}
use Rattle.mysql_bulk.proofs.run.take_rows.Given as goal

abbrev pub invariant-loop-row : goal.invariant-loop-row
invariant-loop-row g l = record {
  can : (goal.iterator-loop-row g).can_next l.rows;
  ends : (goal.iterator-loop-row g).is_finite l.rows;
  so_far : Taken g.I.Iterator.next_gives l.fn.builder.state (None, l.fn.rows) l.builder.state (None, l.rows);
  less : length l.builder.state.waiting + size (g.I.Iterator.remaining l.rows) ≤ length l.fn.builder.state.waiting + size (g.I.Iterator.remaining l.fn.rows);
}
