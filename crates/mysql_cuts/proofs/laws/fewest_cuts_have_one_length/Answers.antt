use Rattle.std.proofs.Common.{arith}
use Rattle.mysql_cuts.proofs.laws.fewest_cuts_have_one_length.Goals as goal

pub returns : goal.returns
returns c s = λ k rows one other f g. omega (arith, f.1 other g.0, g.1 one f.0)
