use Rattle.std.proofs.Common.{◌≡◌, ◌+◌, ◌<◌, ◌^◌, length}
use Rattle.mysql_auth.specs.Attributes.{pairs_bytes}
use Rattle.mysql_wire.specs.Writing.{saturated}
use Rattle.mysql_packets_c.specs.Attributes.{firsts_from, merged_pairs}
use Rattle.mysql_packets_c.proofs.attributes.pairs_len.Given as goal

abbrev pub invariant-loop-place : goal.invariant-loop-place
invariant-loop-place l = record {
  left : saturated (l.total + length (pairs_bytes (firsts_from l.place l.attributes))) ≡ saturated (length (pairs_bytes (merged_pairs l.attributes)));
  small : l.total < 2 ^ 64;
}
