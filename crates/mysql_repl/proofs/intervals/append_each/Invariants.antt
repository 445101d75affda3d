use Rattle.std.proofs.Common.{◌≡◌, ◌++◌, ◌≤◌, length, take, drop}
use Rattle.std.specs.List.{flat_map}
use Rattle.mysql_repl.specs.GnoInterval.{interval}
use Rattle.mysql_repl.proofs.intervals.append_each.Given as goal

abbrev pub invariant-loop-numbers : goal.invariant-loop-numbers
invariant-loop-numbers g l =
    record {
      items : g.O.Buffer.held l.out ≡ g.O.Buffer.held l.initial.out ++ flat_map interval.bytes (take l.numbers-index l.intervals);
      after : g.O.Buffer.after l.out ≡ drop (length (flat_map interval.bytes (take l.numbers-index l.intervals))) (g.O.Buffer.after l.initial.out);
      capacity : g.O.Buffer.capacity l.initial.out ≤ g.O.Buffer.capacity l.out;
      kept : g.O.Buffer.kept l.out ≡ g.O.Buffer.kept l.initial.out;
    }
