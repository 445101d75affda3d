use Rattle.mysql_packets_c.proofs.Conversations.{leads, session_beginning, session_taken}
use Rattle.mysql_packets_c.proofs.session.next_of_login.Goals as goal

pub returns-in-Ok-clause-taken : goal.returns-in-Ok-clause-taken
returns-in-Ok-clause-taken c e =
    leads c.args.numbers.now c.put_session.new.numbers c.in-Some.session c.next.new.self c.args.from c.args.payload.now c.in-Ok.kind c.in-Ok.exchange c.put_packet.new.out
    c.requires.login c.in-Some.ensures.stands c.put_packet.ensures c.in-Ok.ensures.taken c.put_session.ensures.taken

pub returns-in-Err-UnexpectedPacket-clause-refused : goal.returns-in-Err-UnexpectedPacket-clause-refused
returns-in-Err-UnexpectedPacket-clause-refused c e items kind number t b =
    c.in-Err-UnexpectedPacket.ensures.refused items kind number c.in-Err-UnexpectedPacket.field-0-is
    (session_taken c.args.numbers.now c.in-Some.session items c.requires.login c.in-Some.ensures.stands t)
    (session_beginning c.args.numbers.now _ c.requires.login b)
