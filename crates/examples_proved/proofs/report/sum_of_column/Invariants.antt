use Rattle.std.proofs.Common.{take}
use Rattle.examples_proved.specs.Report.{SumsTo}
use Rattle.examples_proved.proofs.report.sum_of_column.Given as goal

abbrev pub invariant-loop-row : goal.invariant-loop-row
invariant-loop-row l = SumsTo l.fn.columns l.fn.place (take l.row-index l.fn.rows) l.total
