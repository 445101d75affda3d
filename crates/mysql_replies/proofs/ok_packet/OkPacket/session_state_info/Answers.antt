use Rattle.std.proofs.Common.{rules}
use Rattle.mysql_wire.specs.Seq.{items_of}
use Rattle.mysql_replies.specs.SessionStateInfo.{begins_with_entry, session_state_info}
use Rattle.mysql_replies.proofs.StateString.{at-end, spelled-at-end}
use Rattle.mysql_replies.proofs.ok_packet.OkPacket.session_state_info.Goals as goal

pub returns-in-Some-clause-value : goal.returns-in-Some-clause-value
returns-in-Some-clause-value c = at-end (session_state_info.form tt) begins_with_entry (items_of c.read_all.result) _ c.new-entries.result c.read_all.new.buf (search rules) c.read_all.ensures.value

pub returns-in-Some-clause-spelled : goal.returns-in-Some-clause-spelled
returns-in-Some-clause-spelled c = spelled-at-end (session_state_info.form tt) begins_with_entry c.read_all.result _ c.new-entries.result c.read_all.new.buf (search rules) c.read_all.ensures.value
