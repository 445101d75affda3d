use Rattle.std.proofs.Common.{arith, ◌-◌}
use Rattle.mysql_observer.proofs.Known.{resumed_after}
use Rattle.mysql_observer.proofs.observer.Observer.resume_after.Goals as goal

pub returns-clause-resumed : goal.returns-clause-resumed
returns-clause-resumed c =
    resumed_after c.next-observed.result (record c.resume.new.self { before = c.saturating_sub-self.result }) c.next-observed.new.self c.args.agreed (c.args.self.now.last - 1) c.args.command.now c.next-observed.ensures.resumed c.next-observed.ensures.kept
    (c.resume.ensures.resumed.0, c.resume.ensures.resumed.1, omega (arith, c.resume.ensures.last, c.saturating_sub-self.ensures))
