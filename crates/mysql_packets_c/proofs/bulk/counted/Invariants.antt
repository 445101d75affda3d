use Rattle.mysql_packets_c.specs.Bulk.{IsCounted}
use Rattle.mysql_packets_c.proofs.bulk.counted.Given as goal

abbrev pub invariant-loop-count : goal.invariant-loop-count
invariant-loop-count l = IsCounted l.call l.count l.len l.values
