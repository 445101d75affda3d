use Rattle.mysql_cuts.proofs.Packed.{fits_front}
use Rattle.mysql_cuts.proofs.laws.beginning_has_fitting_cut.Goals as goal

pub returns : goal.returns
returns c s = λ k rows n f. fits_front k rows n f
