use Rattle.mysql_auth.specs.Attributes.{pairs_bytes}
use Rattle.mysql_packets_c.specs.Attributes.{firsts_from, merged_pairs}
use Rattle.mysql_packets_c.proofs.Appends.{IsLeft}
use Rattle.mysql_packets_c.proofs.attributes.append_pairs.Given as goal

abbrev pub invariant-loop-place : goal.invariant-loop-place
invariant-loop-place g l = IsLeft g.O.Buffer.held g.O.Buffer.after g.O.Buffer.capacity g.O.Buffer.kept (pairs_bytes (merged_pairs l.attributes)) (pairs_bytes (firsts_from l.place l.attributes)) l.initial.out l.out
