use Rattle.std.proofs.Common.{arith}
use Rattle.mysql_program.proofs.Rows.{prepended_none}
use Rattle.mysql_program.proofs.row_text.read_rows.Goals as goal

pub loop-line-init : goal.loop-line-init
loop-line-init c = grind (arith, prepended_none)
