use Rattle.mysql_replies.proofs.OkPacketAgain.{common-again, terminator-again, old_eof-again}
use Rattle.mysql_replies.proofs.laws.ok_packet_round_trips.Goals as goal

pub returns-clause-common : goal.returns-clause-common
returns-clause-common c = common-again _

pub returns-clause-terminator : goal.returns-clause-terminator
returns-clause-terminator c = terminator-again _

pub returns-clause-old_eof : goal.returns-clause-old_eof
returns-clause-old_eof c = old_eof-again _

pub returns-clause-stream_end : goal.returns-clause-stream_end
returns-clause-stream_end c = old_eof-again _
