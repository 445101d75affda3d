use Rattle.std.proofs.Common.{length}
use Rattle.mysql_repl.specs.GtidSetEntries.{text_entries}
use Rattle.mysql_packets_c.proofs.TextLayouts.{LayoutSoFar}
use Rattle.mysql_packets_c.proofs.text_dump.layout_of.Given as goal

abbrev pub invariant-loop-entry : goal.invariant-loop-entry
invariant-loop-entry l = LayoutSoFar l.layout l.left (text_entries l.fn.text)

abbrev pub decreases-loop-entry : goal.decreases-loop-entry
decreases-loop-entry l = length l.left
