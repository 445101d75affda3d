use Rattle.std.proofs.Common.{◌<◌, length, refl, arith}
use Rattle.mysql_packets_c.proofs.FilledRows.{one-filled}
use Rattle.mysql_packets_c.proofs.rows.fill_binary.Goals as goal

pub loop-row-preserved : goal.loop-row-preserved
loop-row-preserved c =
    let step = c.in_ok-put_by_type.ensures in
    let fits : c.loop-row.place < length c.loop-row.values = omega arith in
    one-filled c.args.row.now c.loop-row.row c.put_by_type.new.row c.args.values.now c.loop-row.values c.loop-row.place c.put_by_type.new.place _ _ c.loop-row.invariant step.value refl step.set fits
