use Rattle.mysql_auth.proofs.ReadPackets.{response-parts}
use Rattle.mysql_auth.proofs.laws.read_handshake_response_fits.Goals as goal

pub returns : goal.returns
returns c = record { fits = response-parts }
