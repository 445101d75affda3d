use Rattle.std.specs.Hash.{items_Alike}
use Rattle.mysql_wire.proofs.laws.equality.equal_lists_hash_equally.Goals as goal

pub returns : goal.returns
returns g c = (items_Alike (record { fed = g.met.T.Hash.respects_eq })).fed
