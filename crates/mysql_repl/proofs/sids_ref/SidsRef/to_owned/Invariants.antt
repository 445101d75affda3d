use Rattle.std.proofs.Common.{◌≡◌, ◌++◌}
use Rattle.mysql_repl.proofs.sids_ref.SidsRef.to_owned.Given as goal

abbrev pub invariant-loop-sid : goal.invariant-loop-sid
invariant-loop-sid l = l.sids.items ++ l.sid-iterator ≡ l.initial.sid-iterator
