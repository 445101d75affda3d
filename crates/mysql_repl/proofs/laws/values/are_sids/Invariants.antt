use Rattle.std.proofs.Common.{ℕ, ◌<◌, get_or}
use Rattle.mysql_repl.specs.declared.sid.Sid.{Sid}
use Rattle.mysql_repl.specs.Sid.{IsSid}
use Rattle.mysql_repl.proofs.laws.values.are_sids.Given as goal

abbrev pub invariant-loop-sid : goal.invariant-loop-sid
invariant-loop-sid l = (k : ℕ) (d : Sid) → k < l.sid-index → IsSid (get_or l.sids k d)
