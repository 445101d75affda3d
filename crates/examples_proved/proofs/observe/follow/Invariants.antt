use Rattle.std.proofs.Common.{take}
use Rattle.examples_proved.proofs.Followed.{Followed}
use Rattle.examples_proved.proofs.observe.follow.Given as goal

abbrev pub invariant-loop-packet : goal.invariant-loop-packet
invariant-loop-packet l = Followed l.fn.limits l.observer (take l.packet-index l.fn.packets)
