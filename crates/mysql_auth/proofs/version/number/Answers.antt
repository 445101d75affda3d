use Rattle.std.proofs.Common.{arith}
use Rattle.mysql_auth.proofs.Scanner.{number-is, digit_counts}
use Rattle.mysql_auth.proofs.version.number.Goals as goal

pub returns : goal.returns
returns c = record {
  value = number-is c.args.most c.loop-count.count c.loop-count.number c.args.text.now (grind (arith, digit_counts)) (omega arith) c.loop-count.invariant.value;
}
