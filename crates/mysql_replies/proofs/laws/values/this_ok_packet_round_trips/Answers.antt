use Rattle.mysql_replies.proofs.OkPacketRead.{old_eof-sent, stream_end-sent}
use Rattle.mysql_replies.proofs.laws.values.this_ok_packet_round_trips.Goals as goal

pub returns-clause-old_eof : goal.returns-clause-old_eof
returns-clause-old_eof c = λ flags bytes rest s. old_eof-sent flags c.args.packet.now bytes rest c.has_ok_widths.ensures.value s

pub returns-clause-stream_end : goal.returns-clause-stream_end
returns-clause-stream_end c = λ flags bytes rest s. stream_end-sent flags c.args.packet.now bytes rest c.has_ok_widths.ensures.value s
