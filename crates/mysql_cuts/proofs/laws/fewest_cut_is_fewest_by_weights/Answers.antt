use Rattle.mysql_cuts.proofs.Weighed.{weigh, ends_to, fewest_weighed}
use Rattle.mysql_cuts.proofs.laws.fewest_cut_is_fewest_by_weights.Goals as goal

pub returns : goal.returns
returns c s = λ k rows cut f. (weigh k cut, ends_to k 0 cut, fewest_weighed k rows cut f)
