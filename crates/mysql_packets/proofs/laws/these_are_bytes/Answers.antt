use Rattle.mysql_packets.proofs.SliceBytes.{are_bytes}
use Rattle.mysql_packets.proofs.laws.these_are_bytes.Goals as goal

pub returns : goal.returns
returns c = record { value = are_bytes c.args.bytes.now c.type_inv.bytes }
