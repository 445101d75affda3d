use Rattle.std.proofs.Common.{◌≡◌}
use Rattle.mysql_repl.specs.SidText.{all_read}
use Rattle.mysql_repl.proofs.SidLoops.{with_front, IsEarly}
use Rattle.mysql_repl.proofs.sid_text.read_intervals.Given as goal

abbrev pub invariant-loop-interval : goal.invariant-loop-interval
invariant-loop-interval l =
    record {
      read : with_front l.intervals.items (all_read l.interval-iterator) ≡ all_read l.initial.interval-iterator;
      early : IsEarly l.interval-iterator l.initial.interval-iterator;
    }
