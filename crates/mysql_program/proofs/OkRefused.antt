-- The refusal for an OK packet, its state or a change with a fault.
use Rattle.std.proofs.Common.{◌≡◌, ℕ, List, [], Bool}
use Rattle.mysql_wire.specs.declared.fault.FaultOf.{FaultOf}
use Rattle.mysql_wire.specs.declared.fault.FaultOf.TheVariants as fault
use Rattle.mysql_wire.specs.Reading.{Reading, Faults}
use Rattle.mysql_session.specs.declared.session_state_change.SessionStateChange.{SessionStateChange}
use Rattle.mysql_replies.specs.declared.ok_packet.OkPacket.{OkPacket}
use Rattle.mysql_replies.specs.declared.session_state_info.SessionStateInfo.{SessionStateInfo}
use Rattle.mysql_program.specs.declared.commands.change_layout.ChangeLayout.{ChangeLayout}
use Rattle.mysql_program.specs.Answer.{Answer, IsFaultRefusal}
use Rattle.mysql_program.specs.Ok.{packet_answer, with_session_state, with_change}

pub refused_packet : (layout : ChangeLayout) (takes_memory : Bool) (e : FaultOf) (read : Reading OkPacket) (answer : Answer) → Faults takes_memory e read → IsFaultRefusal [] e answer → answer ≡ packet_answer layout read
refused_packet layout takes_memory fault.Memory read answer e is = absurd is
refused_packet layout takes_memory _ read answer e is = rw e is

pub refused_state : (layout : ChangeLayout) (takes_memory : Bool) (e : FaultOf) (lines : List ℕ) (rest : ℕ) (read : Reading (List SessionStateInfo)) (answer : Answer) → Faults takes_memory e read → IsFaultRefusal lines e answer → answer ≡ with_session_state layout lines rest read
refused_state layout takes_memory fault.Memory lines rest read answer e is = absurd is
refused_state layout takes_memory _ lines rest read answer e is = rw e is

pub refused_change : (takes_memory : Bool) (e : FaultOf) (lines : List ℕ) (read : Reading SessionStateChange) (next : List ℕ → Answer) (answer : Answer) → Faults takes_memory e read → IsFaultRefusal lines e answer → answer ≡ with_change lines read next
refused_change takes_memory fault.Memory lines read next answer e is = absurd is
refused_change takes_memory _ lines read next answer e is = rw e is

pub ruleset ok_refusals = (refused_packet, refused_state, refused_change)
