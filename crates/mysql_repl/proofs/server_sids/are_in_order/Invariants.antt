use Rattle.std.proofs.Common.{◌≡◌, drop}
use Rattle.mysql_repl.specs.ServerSids.{are_after}
use Rattle.mysql_repl.proofs.server_sids.are_in_order.Given as goal

abbrev pub invariant-loop-interval : goal.invariant-loop-interval
invariant-loop-interval l = are_after l.last (drop l.interval-index l.intervals) ≡ are_after 0 l.intervals
