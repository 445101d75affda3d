use Rattle.mysql_auth.proofs.ReadPackets.{change-parts, change-parts_there}
use Rattle.mysql_auth.proofs.laws.read_change_user_fits.Goals as goal

pub returns : goal.returns
returns c = record {
  fits = λ k p bytes rest more spelled short. change-parts k p bytes rest more spelled short;
  attributes = λ k p bytes rest more spelled short there. change-parts_there k p bytes rest more spelled short there;
}
