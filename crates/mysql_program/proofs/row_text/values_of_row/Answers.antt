use Rattle.std.proofs.Common.{arith}
use Rattle.mysql_program.proofs.Rows.{prepended_none}
use Rattle.mysql_program.proofs.row_text.values_of_row.Goals as goal

pub loop-cell-init : goal.loop-cell-init
loop-cell-init c = grind (arith, prepended_none)
