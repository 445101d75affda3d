use Rattle.std.proofs.Common.{◌≡◌, ◌++◌, ◌≤◌, drop, length}
use Rattle.std.specs.List.{flat_map}
use Rattle.mysql_repl.specs.GtidSetEntries.{text_entries}
use Rattle.mysql_packets_c.specs.GtidEntries.{entry_bytes}
use Rattle.mysql_packets_c.proofs.text_dump.TextSidsMySerialize.append.Given as goal

abbrev pub invariant-loop-entry : goal.invariant-loop-entry
invariant-loop-entry g l =
    record {
      items : g.O.Buffer.held l.bytes ++ flat_map (entry_bytes l.self.tagged) l.left ≡ g.O.Buffer.held l.fn.out ++ flat_map (entry_bytes l.self.tagged) (text_entries l.self.text.now);
      after : drop (length (flat_map (entry_bytes l.self.tagged) l.left)) (g.O.Buffer.after l.bytes) ≡ drop (length (flat_map (entry_bytes l.self.tagged) (text_entries l.self.text.now))) (g.O.Buffer.after l.fn.out);
      capacity : g.O.Buffer.capacity l.fn.out ≤ g.O.Buffer.capacity l.bytes;
      kept : g.O.Buffer.kept l.bytes ≡ g.O.Buffer.kept l.fn.out;
    }

abbrev pub decreases-loop-entry : goal.decreases-loop-entry
decreases-loop-entry g l = length l.left
