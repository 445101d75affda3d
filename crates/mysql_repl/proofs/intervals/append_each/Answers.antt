use Rattle.std.proofs.Common.{length, take, ap, ◌∙◌, arith}
use Rattle.std.specs.List.{flat_map}
use Rattle.std.proofs.lemmas.List.{length-append}
use Rattle.std.proofs.lemmas.List.Folds.{length-flat_map-take}
use Rattle.mysql_repl.specs.GnoInterval.{interval, interval_of}
use Rattle.mysql_repl.proofs.intervals.append_each.Goals as goal

pub append-requires : goal.append-requires
append-requires g c =
    let bytes = interval.bytes in
    let fits = length-flat_map-take bytes c.args.intervals.now c.loop-numbers.numbers-index (interval_of 0 0) c.loop-numbers-test.true in
    let so_far = ap length c.loop-numbers.invariant.items ∙ length-append (g.O.Buffer.held c.args.out.now) (flat_map bytes (take c.loop-numbers.numbers-index c.args.intervals.now)) in
    omega (arith, fits, so_far, c.loop-numbers.invariant.capacity, c.requires)
