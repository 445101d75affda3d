use Rattle.std.proofs.Common.{◌↔◌, drop}
use Rattle.mysql_bulk.specs.Row.{EqualLengths}
use Rattle.mysql_bulk.specs.Row.{contents_of_rows}
use Rattle.mysql_bulk.proofs.row.equally_long.Given as goal

abbrev pub invariant-loop-row : goal.invariant-loop-row
invariant-loop-row l = EqualLengths l.fn.arity (contents_of_rows l.rows) ↔ EqualLengths l.fn.arity (contents_of_rows (drop l.row-index l.rows))
