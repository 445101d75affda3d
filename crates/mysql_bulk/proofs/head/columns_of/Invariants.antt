use Rattle.std.proofs.Common.{◌≡◌, map, take}
use Rattle.mysql_bulk.specs.Head.{column_of_type}
use Rattle.mysql_bulk.proofs.head.columns_of.Given as goal

abbrev pub invariant-loop-t : goal.invariant-loop-t
invariant-loop-t l = l.columns.items ≡ map column_of_type (take l.t-index l.types)
