-- The refusal for a handshake with a fault.
use Rattle.std.proofs.Common.{[], Bool}
use Rattle.mysql_wire.specs.declared.fault.FaultOf.{FaultOf}
use Rattle.mysql_wire.specs.declared.fault.FaultOf.TheVariants as fault
use Rattle.mysql_wire.specs.Reading.{Reading, Faults}
use Rattle.mysql_auth.specs.Handshake.{HandshakePacket}
use Rattle.mysql_program.specs.Answer.{Answer, IsFaultRefusal}
use Rattle.mysql_program.specs.HandshakeLines.{AnswersReading}

pub refused_handshake : (takes_memory : Bool) (e : FaultOf) (read : Reading HandshakePacket) (answer : Answer) → Faults takes_memory e read → IsFaultRefusal [] e answer → AnswersReading read answer
refused_handshake takes_memory fault.Memory read answer e is = absurd is
refused_handshake takes_memory _ read answer e is = rw e is

pub ruleset handshake_refusals = (refused_handshake)
