use Rattle.mysql_cuts.proofs.Full.{full_fewest}
use Rattle.mysql_cuts.proofs.laws.full_cut_is_fewest.Goals as goal

pub returns : goal.returns
returns c s = λ k rows cut f full. full_fewest k rows cut f full
