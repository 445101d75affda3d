use Rattle.std.proofs.Common.{◌≡◌}
use Rattle.std.specs.Cmp.Lexicographic.{pointwise}
use Rattle.mysql_repl.specs.contracts.sid.SidPartialEq.TheImpl as equality
use Rattle.mysql_repl.proofs.sids_ref.give_the_same.Given as goal

abbrev pub invariant-loop-sid : goal.invariant-loop-sid
invariant-loop-sid l = pointwise equality.ghosts.eq l.sid-iterator l.others ≡ pointwise equality.ghosts.eq l.initial.sid-iterator l.initial.others
