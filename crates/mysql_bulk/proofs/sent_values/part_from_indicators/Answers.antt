use Rattle.std.proofs.Common.{◌≡◌, ◌∷◌, [], length, ap, arith, length-append}
use Rattle.std.specs.Vec.Iter.{into_iter_items}
use Rattle.mysql_bulk.proofs.SentValues.{parted_more}
use Rattle.mysql_bulk.proofs.sent_values.part_from_indicators.Goals as goal

pub loop-value-preserved : goal.loop-value-preserved
loop-value-preserved c =
    let rest = into_iter_items c.next.new.self in
    let step : into_iter_items c.loop-value.value-iterator ≡ c.in-Some.value ∷ rest = c.in-Some.ensures.steps.0 in
    let indicators = c.push_reserved.ensures in
    let values = c.push_reserved-in-loop-value.ensures in
    let one_less = ap length step in
    record {
      parted = parted_more c.loop-value.indicators.items c.push_reserved.new.self.items c.loop-value.values.items c.push_reserved-in-loop-value.new.self.items c.in-Some.value c.indicator.result c.into_value.result
          (into_iter_items c.loop-value.value-iterator) rest c.args.read.items c.loop-value.invariant.same_length indicators.items values.items c.indicator.ensures.value c.into_value.ensures step c.loop-value.invariant.parted;
      same_length = omega (
        arith,
        c.loop-value.invariant.same_length,
        ap length indicators.items,
        ap length values.items,
        length-append c.loop-value.indicators.items (c.indicator.result ∷ []),
        length-append c.loop-value.values.items (c.into_value.result ∷ []),
      );
      values_capacity = omega (arith, c.loop-value.invariant.values_capacity, values.len, values.capacity, one_less);
      indicators_capacity = omega (arith, c.loop-value.invariant.indicators_capacity, indicators.len, indicators.capacity, one_less);
    }
