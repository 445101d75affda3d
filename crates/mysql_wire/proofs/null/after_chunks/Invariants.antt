use Rattle.std.proofs.Common.{length}
use Rattle.mysql_wire.specs.Null.{HasNoZero}
use Rattle.mysql_wire.proofs.null.after_chunks.Given as goal

abbrev pub invariant-loop-front : goal.invariant-loop-front
invariant-loop-front g l = HasNoZero l.rest → HasNoZero l.bytes

abbrev pub decreases-loop-front : goal.decreases-loop-front
decreases-loop-front g l = length l.rest
