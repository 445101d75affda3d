use Rattle.std.proofs.Common.{◌≡◌, ◌-◌, ◌*◌, true, length, take, drop}
use Rattle.mysql_packets_c.specs.Bulk.{rows_of, takes_rows}
use Rattle.mysql_packets_c.specs.BulkSizes as spec
use Rattle.mysql_packets_c.proofs.bulk_sizes.put_sizes.Given as goal

abbrev pub invariant-loop-count : goal.invariant-loop-count
invariant-loop-count l = record {
  left : takes_rows l.columns (l.rows - l.count) (drop (l.count * length l.columns) l.values) ≡ true;
  sizes : take l.count l.sizes ≡ spec.sizes_of l.columns (rows_of (length l.columns) l.count l.values);
  others : drop l.count l.sizes ≡ drop l.count l.fn.sizes;
  len : length l.sizes ≡ length l.fn.sizes;
}
