use Rattle.std.proofs.Common.{◌≡◌, ◌++◌, ◌+◌, ◌≤◌, length, vec_len, vec_capacity}
use Rattle.std.specs.Vec.Iter.{into_iter_items}
use Rattle.mysql_values.specs.Value.{contents_of}
use Rattle.mysql_bulk.specs.SentValues.{sent_values}
use Rattle.mysql_bulk.proofs.sent_values.part_from_indicators.Given as goal

abbrev pub invariant-loop-value : goal.invariant-loop-value
invariant-loop-value l = record {
  parted : sent_values l.indicators.items (contents_of l.values.items) ++ into_iter_items l.value-iterator ≡ l.fn.read.items;
  same_length : length l.indicators.items ≡ length l.values.items;
  values_capacity : vec_len l.values + length (into_iter_items l.value-iterator) ≤ vec_capacity l.values;
  indicators_capacity : vec_len l.indicators + length (into_iter_items l.value-iterator) ≤ vec_capacity l.indicators;
}
