use Rattle.std.proofs.Common.{◌≡◌, ◌-◌}
use Rattle.mysql_conversation.specs.PipelineState.{IsQueue, queue}
use Rattle.mysql_conversation.specs.Standing.{settle}
use Rattle.mysql_conversation.proofs.pipeline_state.PipelineState.settle.Given as goal

abbrev pub invariant-loop-self : goal.invariant-loop-self
invariant-loop-self l =
    IsQueue l.self × (settle l.state l.self.number l.self.last (queue l.self) ≡ settle l.initial.state l.initial.self.number l.initial.self.last (queue l.initial.self)) × (l.self.current ≡ l.initial.self.current)

abbrev pub decreases-loop-self : goal.decreases-loop-self
decreases-loop-self l = l.self.last - l.self.number
