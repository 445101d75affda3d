use Rattle.mysql_stmt.proofs.SentTypes.{Typed}
use Rattle.mysql_stmt.proofs.sent_types.SentParamTypes.set_types.Given as goal

abbrev pub invariant-loop-place : goal.invariant-loop-place
invariant-loop-place l = Typed l.initial.params l.initial.types l.params l.place l.types
