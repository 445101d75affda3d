use Rattle.std.proofs.Common.{◌≡◌, drop}
use Rattle.mysql_program.specs.GtidSetLines.{are_after, are_in_order}
use Rattle.mysql_program.proofs.commands.gtid_set.are_in_order.Given as goal

-- the sids so far are in order, so the remaining ones decide
abbrev pub invariant-loop-sid : goal.invariant-loop-sid
invariant-loop-sid l = are_after l.before (drop l.sid-index l.more) ≡ are_in_order l.sids
