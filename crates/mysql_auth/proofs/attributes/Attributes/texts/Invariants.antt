use Rattle.std.proofs.Common.{◌≡◌, map, take}
use Rattle.mysql_auth.specs.Attributes.{text_pair, lossy_pairs}
use Rattle.mysql_auth.proofs.attributes.Attributes.texts.Given as goal

abbrev pub invariant-loop-attribute : goal.invariant-loop-attribute
invariant-loop-attribute l = map text_pair l.texts.entries ≡ lossy_pairs (take l.attribute-index l.attribute-items)
