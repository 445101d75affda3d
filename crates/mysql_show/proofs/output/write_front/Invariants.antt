use Rattle.mysql_show.specs.Output.{IsCut}
use Rattle.mysql_show.proofs.output.write_front.Given as goal

-- the front was written, and the rest is still to be written
abbrev pub invariant-loop : goal.invariant-loop
invariant-loop g l = IsCut l.initial.text l.rest (g.W.Write.contents l.initial.writer) (g.W.Write.contents l.writer)
