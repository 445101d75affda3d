use Rattle.std.proofs.Common.{refl}
use Rattle.mysql_recorder.proofs.sides.Sides.take_up_at.Goals as goal

pub returns-clause-resync : goal.returns-clause-resync
returns-clause-resync c = record {
  resumed = c.resume.ensures.resumed;
  client = record { passed = c.new.ensures.awaited refl; held = c.new.ensures.held; limit = c.new.ensures.limit };
  server = record { passed = c.new-2.ensures.awaited refl; held = c.new-2.ensures.held; limit = c.new-2.ensures.limit };
}
