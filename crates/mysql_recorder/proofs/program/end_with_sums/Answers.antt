use Rattle.std.proofs.Common.{inr}
use Rattle.mysql_recorder.proofs.Written.{none_written}
use Rattle.mysql_recorder.proofs.program.end_with_sums.Goals as goal

pub returns-clause-ends : goal.returns-clause-ends
returns-clause-ends g c = none_written c.args.sums c.args.status (g.W.Write.contents c.args.writer.now)

pub returns-then-sums-clause-sums : goal.returns-then-sums-clause-sums
returns-then-sums-clause-sums g c = λ asked has. inr c.refuse_memory.ensures
