use Rattle.mysql_frames.proofs.Shown.{faults_differ}
use Rattle.mysql_frames.proofs.laws.held_bytes_show_one_fault.Goals as goal

pub returns : goal.returns
returns c = faults_differ
