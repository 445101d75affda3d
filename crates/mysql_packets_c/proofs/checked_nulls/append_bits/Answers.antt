use Rattle.std.proofs.Common.{length, ap, arith}
use Rattle.mysql_packets_c.proofs.Appends.{as-bytes}
use Rattle.mysql_packets_c.proofs.CheckedParams.{no-attributes}
use Rattle.mysql_packets_c.proofs.checked_nulls.append_bits.Goals as goal

pub append-requires : goal.append-requires
append-requires g c = omega (arith, ap length (no-attributes c.args.params.now), c.requires)

pub returns : goal.returns
returns g c =
    let e = c.append.ensures in
    as-bytes (no-attributes c.args.params.now) (record { items = e.items; after = e.after; capacity = e.capacity; kept = e.kept })
