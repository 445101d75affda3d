use Rattle.std.proofs.Common.{◌≡◌}
use Rattle.mysql_packets_c.proofs.Mixed.{mixed_to}
use Rattle.mysql_packets_c.proofs.scramble.mix.Given as goal

abbrev pub invariant-loop-place : goal.invariant-loop-place
invariant-loop-place l = l.out ≡ mixed_to l.place l.first l.second
