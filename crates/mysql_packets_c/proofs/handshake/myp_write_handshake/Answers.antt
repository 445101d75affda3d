use Rattle.mysql_packets_c.proofs.HandshakeFit.{handshake-parts}
use Rattle.mysql_packets_c.proofs.handshake.myp_write_handshake.Goals as goal

pub returns-clause-value : goal.returns-clause-value
returns-clause-value c = λ fits.
    (c.handshake_of.result, c.handshake_of.ensures.value, handshake-parts c.args.fields.now c.handshake_of.result c.handshake_of.ensures.value fits, c.put_packet.ensures)
