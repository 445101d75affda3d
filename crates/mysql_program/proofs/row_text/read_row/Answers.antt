use Rattle.std.proofs.Common.{arith}
use Rattle.mysql_program.proofs.Rows.{prepended_none}
use Rattle.mysql_program.proofs.row_text.read_row.Goals as goal

pub loop-word-init : goal.loop-word-init
loop-word-init c = grind (arith, prepended_none)
