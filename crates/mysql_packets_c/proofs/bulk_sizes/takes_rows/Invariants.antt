use Rattle.std.proofs.Common.{◌≡◌, ◌-◌, ◌*◌, length, drop}
use Rattle.mysql_packets_c.specs.Bulk.{takes_rows}
use Rattle.mysql_packets_c.proofs.bulk_sizes.takes_rows.Given as goal

abbrev pub invariant-loop-count : goal.invariant-loop-count
invariant-loop-count l = takes_rows l.columns l.rows l.values ≡ takes_rows l.columns (l.rows - l.count) (drop (l.count * length l.columns) l.values)
