use Rattle.std.proofs.Common.{arith}
use Rattle.mysql_repl.proofs.Ranges.{all-sids}
use Rattle.mysql_repl.proofs.laws.values.are_sids.Goals as goal

pub returns : goal.returns
returns c = record { value = all-sids c.args.sids.now (λ k d lt. c.loop-sid.invariant k d (omega (arith, lt, c.loop-sid-test.false))) }
