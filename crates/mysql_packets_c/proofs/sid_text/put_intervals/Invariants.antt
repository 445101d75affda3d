use Rattle.std.proofs.Common.{◌≡◌, ◌+◌, ◌≤◌, length}
use Rattle.mysql_repl.specs.SidText.{all_read}
use Rattle.mysql_packets_c.proofs.SidsRead.{StandsBefore}
use Rattle.mysql_packets_c.proofs.sid_text.put_intervals.Given as goal

abbrev pub invariant-loop-interval : goal.invariant-loop-interval
invariant-loop-interval l =
    record {
      read : StandsBefore l.count l.places (all_read l.interval-iterator) (all_read l.initial.interval-iterator);
      len : length l.places ≡ length l.fn.places;
      few : l.count + length l.interval-iterator ≤ l._total;
    }
