use Rattle.std.proofs.Common.{◌≡◌, ◌+◌, length, take}
use Rattle.mysql_cuts.specs.Cut.{request_size, WithinRows}
use Rattle.mysql_cuts.specs.Fewest.{weights}
use Rattle.mysql_cuts.proofs.fewest.part_fits.Given as goal

abbrev pub invariant-loop-size : goal.invariant-loop-size
invariant-loop-size l = record {
  within : WithinRows l.fn.rule.max_rows (length l.part);
  capacity : l.capacity + request_size (weights l.fn.rule l.limit l.arity) l.types (take l.size-index l.part) ≡ l.limit;
}
