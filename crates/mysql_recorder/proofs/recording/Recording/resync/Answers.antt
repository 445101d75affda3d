use Rattle.std.proofs.Common.{refl}
use Rattle.mysql_recorder.proofs.recording.Recording.resync.Goals as goal

pub returns-clause-resync : goal.returns-clause-resync
returns-clause-resync c = record { awaited = c.take_up_at.ensures.resync; place = refl; line = refl }
