use Rattle.std.proofs.Common.{arith}
use Rattle.mysql_program.specs.TypeWords.{types_of}
use Rattle.mysql_program.proofs.Rows.{prepended_none}
use Rattle.mysql_program.proofs.type_words.read_types.Goals as goal

pub loop-word-init : goal.loop-word-init
unfolding types_of
loop-word-init c = grind (arith, prepended_none)
