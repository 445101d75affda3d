use Rattle.std.proofs.Common.{◌≡◌, ◌+◌, ◌<◌, ◌^◌, length}
use Rattle.std.specs.List.{flat_map}
use Rattle.mysql_repl.specs.SidText.{interval_text}
use Rattle.mysql_wire.specs.Writing.{saturated}
use Rattle.mysql_packets_c.proofs.sids_text.IntervalsTextMySerialize.defined_len.Given as goal

abbrev pub invariant-loop-interval : goal.invariant-loop-interval
invariant-loop-interval l =
    record {
      total : saturated (l.total + length (flat_map interval_text l.interval-iterator)) ≡ saturated (length (flat_map interval_text l.self.0));
      few : l.total < 2 ^ 64;
    }
