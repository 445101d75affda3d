use Rattle.std.proofs.Common.{◌≡◌, drop}
use Rattle.mysql_packets_c.specs.Attributes.{last_of, pairs_of}
use Rattle.mysql_packets_c.proofs.attributes.last_of.Given as goal

abbrev pub invariant-loop-attribute : goal.invariant-loop-attribute
invariant-loop-attribute l = last_of l.first.name.now l.value (pairs_of (drop l.attribute-index l.attributes)) ≡ last_of l.first.name.now l.first.value.now (pairs_of l.attributes)
