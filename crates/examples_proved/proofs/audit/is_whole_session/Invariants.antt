use Rattle.std.proofs.Common.{take}
use Rattle.examples_proved.proofs.Sessions.{Took}
use Rattle.examples_proved.proofs.audit.is_whole_session.Given as goal

abbrev pub invariant-loop-packet : goal.invariant-loop-packet
invariant-loop-packet l = Took l.session (take l.packet-index l.fn.packets)
