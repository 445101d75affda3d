use Rattle.mysql_repl.proofs.GtidSetAgain.{set-text-again}
use Rattle.mysql_repl.proofs.laws.gtid_set_text_round_trips.Goals as goal

pub returns : goal.returns
returns c = record { read = set-text-again }
