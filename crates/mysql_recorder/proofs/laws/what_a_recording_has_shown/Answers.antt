use Rattle.mysql_recorder.proofs.Seen.{recorded_session}
use Rattle.mysql_recorder.proofs.laws.what_a_recording_has_shown.Goals as goal

pub returns-clause-session : goal.returns-clause-session
returns-clause-session c = recorded_session
