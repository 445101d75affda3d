use Rattle.std.proofs.Common.{rules, ◌<◌, length}
use Rattle.mysql_packets_c.proofs.Mixed.{mixed-step}
use Rattle.mysql_packets_c.proofs.scramble.mix.Goals as goal

pub loop-place-preserved : goal.loop-place-preserved
loop-place-preserved c =
    let l = c.loop-place in
    let first : l.place < length c.args.first.now = search rules in
    let second : l.place < length c.args.second.now = search rules in
    mixed-step l.place c.args.first.now c.args.second.now l.out 0 first second l.invariant
