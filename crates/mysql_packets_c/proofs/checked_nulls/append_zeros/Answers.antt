use Rattle.std.proofs.Common.{◌∷◌, []}
use Rattle.std.proofs.lemmas.List.{replicate_more}
use Rattle.mysql_packets_c.proofs.Appends.{as-bytes, both-appended}
use Rattle.mysql_packets_c.proofs.checked_nulls.append_zeros.Goals as goal

pub loop-preserved : goal.loop-preserved
loop-preserved g c =
    let e = c.push_byte.ensures in
    as-bytes (replicate_more c.loop.counter 0) (both-appended {second = 0 ∷ []} c.loop.invariant (record { items = e.items; after = e.after; capacity = e.capacity; kept = e.kept }))
