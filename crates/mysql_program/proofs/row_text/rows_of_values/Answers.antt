use Rattle.std.proofs.Common.{arith}
use Rattle.mysql_program.proofs.Rows.{prepended_none}
use Rattle.mysql_program.proofs.row_text.rows_of_values.Goals as goal

pub loop-row-init : goal.loop-row-init
loop-row-init c = grind (arith, prepended_none)
