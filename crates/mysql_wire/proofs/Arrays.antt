-- A front that is present.
use Rattle.mysql_wire.proofs.Numbers.{bytes-there}

pub ruleset arrays = (bytes-there)
