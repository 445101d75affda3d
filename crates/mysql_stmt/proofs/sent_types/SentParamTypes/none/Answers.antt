use Rattle.std.proofs.Common.{false}
use Rattle.mysql_stmt.proofs.SentTypes.{none-there}
use Rattle.mysql_stmt.proofs.sent_types.SentParamTypes.none.Goals as goal

pub invariant_of-result : goal.invariant_of-result
invariant_of-result c = none-there false c.rest.result
