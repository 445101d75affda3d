use Rattle.std.proofs.Common.{rules}
use Rattle.mysql_observer.proofs.server_reader.server_packet.Goals as goal

pub returns-clause-packet : goal.returns-clause-packet
returns-clause-packet g c = (c.read_server_packet.new.buf, search rules)
