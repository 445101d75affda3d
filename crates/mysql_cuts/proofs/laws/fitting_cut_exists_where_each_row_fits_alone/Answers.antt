use Rattle.mysql_cuts.proofs.Alone.{fits_alone}
use Rattle.mysql_cuts.proofs.laws.fitting_cut_exists_where_each_row_fits_alone.Goals as goal

pub returns : goal.returns
returns c s = λ k rows. fits_alone k rows
