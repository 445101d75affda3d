use Rattle.std.proofs.Common.{length}
use Rattle.mysql_wire.proofs.AllRead.{HasRead}
use Rattle.mysql_wire.proofs.many.check_all.Given as goal

abbrev pub invariant-loop-rest : goal.invariant-loop-rest
invariant-loop-rest g l = HasRead (g.T.MyDeserialize.form tt) l.rest l.initial.rest

abbrev pub decreases-loop-rest : goal.decreases-loop-rest
decreases-loop-rest g l = length l.rest
