use Rattle.std.proofs.Common.{length}
use Rattle.mysql_observer.proofs.Served.{Serving}
use Rattle.mysql_observer.proofs.tracked.Tracked.serve.Given as goal

abbrev pub invariant-loop-command : goal.invariant-loop-command
invariant-loop-command l = Serving l.agreed l.exchange l.initial.self l.self l.has_memory

abbrev pub decreases-loop-command : goal.decreases-loop-command
decreases-loop-command l = length l.self.early.commands
