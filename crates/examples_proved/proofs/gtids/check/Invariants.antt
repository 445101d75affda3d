use Rattle.std.proofs.Common.{◌≡◌, length}
use Rattle.mysql_packets.specs.GtidSetEntries.{sids_of}
use Rattle.mysql_packets.specs.GtidSetText.{read_sids}
use Rattle.examples_proved.specs.Refused.{refused_for}
use Rattle.examples_proved.proofs.gtids.check.Given as goal

abbrev pub invariant-loop-entry : goal.invariant-loop-entry
invariant-loop-entry l = refused_for (sids_of l.left) ≡ refused_for (read_sids l.fn.text)

abbrev pub decreases-loop-entry : goal.decreases-loop-entry
decreases-loop-entry l = length l.left
