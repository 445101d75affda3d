use Rattle.std.proofs.Common.{◌≡◌, length}
use Rattle.mysql_conversation.specs.Piped.{capacity}
use Rattle.mysql_conversation.specs.Standing as spec
use Rattle.mysql_conversation.proofs.pipeline.Pipeline.settle.Given as goal

abbrev pub invariant-loop-self : goal.invariant-loop-self
invariant-loop-self l =
    (spec.settle l.self.state l.self.number l.self.last l.self.waiting.items ≡ spec.settle l.initial.self.state l.initial.self.number l.initial.self.last l.initial.self.waiting.items)
    × (l.self.agreed ≡ l.initial.self.agreed) × (l.self.opening ≡ l.initial.self.opening) × (l.self.limit ≡ l.initial.self.limit) × (capacity l.self ≡ capacity l.initial.self)

abbrev pub decreases-loop-self : goal.decreases-loop-self
decreases-loop-self l = length l.self.waiting.items
