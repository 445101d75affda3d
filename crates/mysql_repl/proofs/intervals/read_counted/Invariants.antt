use Rattle.std.proofs.Common.{◌≡◌, ◌+◌, ◌-◌, ◌*◌, ◌/◌, length, min, vec_len, vec_capacity}
use Rattle.mysql_wire.specs.Seq.{counted}
use Rattle.mysql_wire.proofs.Counted.{with_front}
use Rattle.mysql_repl.specs.GnoInterval.{interval}
use Rattle.mysql_repl.proofs.intervals.read_counted.Given as goal

abbrev pub invariant-loop : goal.invariant-loop
invariant-loop l =
    record {
      read : with_front l.intervals.items ((counted (l.count - l.counter) (interval.form tt)).reads l.buf) ≡ (counted l.count (interval.form tt)).reads l.initial.buf;
      len : vec_len l.intervals ≡ l.counter;
      capacity : vec_capacity l.intervals ≡ min l.count (length l.initial.buf / 16);
      left : length l.buf + 16 * l.counter ≡ length l.initial.buf;
    }
