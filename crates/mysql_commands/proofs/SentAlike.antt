-- Packets with their raw bytes are compared by these bytes.
use Rattle.mysql_wire.proofs.Same.{bytes-same}

pub ruleset sent_alike = (bytes-same)
