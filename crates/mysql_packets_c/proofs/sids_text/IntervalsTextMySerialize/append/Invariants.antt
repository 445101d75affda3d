use Rattle.std.proofs.Common.{◌≡◌, ◌++◌, ◌≤◌, length, drop}
use Rattle.std.specs.List.{flat_map}
use Rattle.mysql_repl.specs.SidText.{interval_text}
use Rattle.mysql_packets_c.proofs.sids_text.IntervalsTextMySerialize.append.Given as goal

abbrev pub invariant-loop-interval : goal.invariant-loop-interval
invariant-loop-interval g l =
    record {
      items : g.O.Buffer.held l.bytes ++ flat_map interval_text l.interval-iterator ≡ g.O.Buffer.held l.fn.out ++ flat_map interval_text l.self.0;
      after : drop (length (flat_map interval_text l.interval-iterator)) (g.O.Buffer.after l.bytes) ≡ drop (length (flat_map interval_text l.self.0)) (g.O.Buffer.after l.fn.out);
      capacity : g.O.Buffer.capacity l.fn.out ≤ g.O.Buffer.capacity l.bytes;
      kept : g.O.Buffer.kept l.bytes ≡ g.O.Buffer.kept l.fn.out;
    }
