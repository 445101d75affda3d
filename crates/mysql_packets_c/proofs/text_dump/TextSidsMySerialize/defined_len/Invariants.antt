use Rattle.std.proofs.Common.{◌≡◌, ◌+◌, ◌<◌, ◌^◌, length}
use Rattle.std.specs.List.{flat_map}
use Rattle.mysql_wire.specs.Writing.{saturated}
use Rattle.mysql_repl.specs.GtidSetEntries.{text_entries}
use Rattle.mysql_packets_c.specs.GtidEntries.{entry_bytes}
use Rattle.mysql_packets_c.proofs.text_dump.TextSidsMySerialize.defined_len.Given as goal

abbrev pub invariant-loop-entry : goal.invariant-loop-entry
invariant-loop-entry l =
    record {
      total : saturated (l.total + length (flat_map (entry_bytes l.self.tagged) l.left)) ≡ saturated (length (flat_map (entry_bytes l.self.tagged) (text_entries l.self.text.now)));
      few : l.total < 2 ^ 64;
    }

abbrev pub decreases-loop-entry : goal.decreases-loop-entry
decreases-loop-entry l = length l.left
