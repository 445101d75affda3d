use Rattle.examples_proved.proofs.Sessions.{took_more}
use Rattle.examples_proved.proofs.audit.is_whole_session.Goals as goal

pub loop-packet-preserved : goal.loop-packet-preserved
loop-packet-preserved c =
    took_more c.args.packets.now c.loop-packet.packet-index _ c.loop-packet.session c.next.new.self c.in_ok-next.field-0.0 c.in_ok-next.field-0.1 c.loop-packet-test.true c.loop-packet.invariant c.in_ok-next.ensures.taken
