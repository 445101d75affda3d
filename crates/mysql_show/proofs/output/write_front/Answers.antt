use Rattle.std.proofs.Common.{rules}
use Rattle.mysql_show.proofs.Outputs.{cut_none, cut_more, cut_keeps, cut_all}
use Rattle.mysql_show.proofs.output.write_front.Goals as goal

pub loop-init : goal.loop-init
loop-init g c = cut_none _ _

pub returns-then-is_empty : goal.returns-then-is_empty
returns-then-is_empty g c = record { front = cut_all _ _ _ _ (search rules) c.loop.invariant }

pub returns-in_default : goal.returns-in_default
returns-in_default g c = record { front = (_, cut_keeps _ _ _ _ _ c.loop.invariant c.in_default.ensures.taken) }

pub loop-preserved : goal.loop-preserved
loop-preserved g c = cut_more _ _ _ _ _ _ c.loop.invariant c.in-Some.ensures.taken.1

pub returns : goal.returns
returns g c = record { front = (_, c.loop.invariant) }
