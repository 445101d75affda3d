use Rattle.std.proofs.Common.{None, Some, refl}
use Rattle.mysql_bulk.proofs.RunSteps.{none_built}
use Rattle.mysql_bulk.proofs.run.answer_waiting.Goals as goal

pub returns-in-Ok : goal.returns-in-Ok
returns-in-Ok c = (Some c.in-Ok.request, refl, c.in-Ok.ensures.builds)

pub returns : goal.returns
returns c = (None, refl, none_built c.args.builder.now.state c.build.new.self.state c.in-Err.field-0 c.in-Err.ensures.builds)
