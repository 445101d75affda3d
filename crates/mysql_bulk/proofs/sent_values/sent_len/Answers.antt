use Rattle.std.proofs.Common.{arith}
use Rattle.mysql_wire.specs.Writing.{saturated}
use Rattle.mysql_bulk.proofs.RequestBytes.{length-values_alone}
use Rattle.mysql_bulk.proofs.sent_values.sent_len.Goals as goal

pub returns : goal.returns
unfolding saturated
returns c = omega (arith, c.items_len.ensures.value, c.saturating_add.ensures, length-values_alone c.args.values.now)
