use Rattle.std.proofs.Common.{◌≡◌, None, if◌then◌else◌, ap, subst, sym, ◌∙◌}
use Rattle.mysql_observer.specs.Tracked.{Tracked}
use Rattle.mysql_observer.proofs.Served.{Serving, all_taken, execution_asked, none_taken, serving_on}
use Rattle.mysql_observer.proofs.tracked.Tracked.serve.Goals as goal

pub loop-command-init : goal.loop-command-init
loop-command-init c = none_taken c.args.agreed c.args.exchange c.args.self.now c.requires

pub loop-command-preserved : goal.loop-command-preserved
loop-command-preserved c =
    let now : Tracked = record { table = c.self.inside.statements; early = c.self.inside.early; lost = c.self.inside.lost; params = c.self.inside.params; reached = c.self.inside.reached } in
    let is : now ≡ c.loop-command.self = cc c.self.view_is in
    subst (λ m. Serving c.args.agreed c.args.exchange c.args.self.now c.take_waiting-is_kept.new.self m) (sym c.are_both-has_memory.ensures)
    (serving_on c.args.agreed c.args.exchange c.args.self.now now c.loop-command.has_memory c.take_waiting-is_kept.result c.in-Some.command c.serve.new.self c.take_waiting-is_kept.new.self
    (subst (λ t. Serving c.args.agreed c.args.exchange c.args.self.now t c.loop-command.has_memory) (sym is) c.loop-command.invariant)
    c.in-Some.ensures.some c.take_waiting-is_kept.ensures.kept c.take_waiting-is_kept.ensures.taken c.take_waiting-is_kept.ensures.asked)

pub returns : goal.returns
returns c =
    let now : Tracked = record { table = c.self.inside.statements; early = c.self.inside.early; lost = c.self.inside.lost; params = c.self.inside.params; reached = c.self.inside.reached } in
    let is : now ≡ c.loop-command.self = cc c.self.view_is in
    let inv : Serving c.args.agreed c.args.exchange c.args.self.now now c.loop-command.has_memory =
    subst (λ t. Serving c.args.agreed c.args.exchange c.args.self.now t c.loop-command.has_memory) (sym is) c.loop-command.invariant in
    record {
      served = c.forget_reached_unless.ensures
          ∙ ap (λ e. record { table = c.self.inside.statements; early = e; lost = c.self.inside.lost; params = c.self.inside.params; reached = if c.loop-command.has_memory then c.self.inside.reached else None }) c.in_default.ensures.none.0
          ∙ all_taken c.args.agreed c.args.exchange c.args.self.now now c.loop-command.has_memory inv c.in_default.ensures.none.1;
      asked = execution_asked c.args.agreed c.args.exchange c.args.self.now now c.loop-command.has_memory inv c.in_default.ensures.none.1;
    }
