use Rattle.std.proofs.Common.{rules}
use Rattle.mysql_observer.proofs.client_reader.client_packet.Goals as goal

pub returns-clause-packet : goal.returns-clause-packet
returns-clause-packet c = (c.read_client_packet.new.buf, search rules)
