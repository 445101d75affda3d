use Rattle.std.proofs.Common.{◌≡◌}
use Rattle.std.specs.Cmp.Lexicographic.{pointwise}
use Rattle.mysql_auth.specs.Attributes.{attribute_eq}
use Rattle.mysql_auth.proofs.connect_attributes_ref.give_the_same.Given as goal

abbrev pub invariant-loop-pair : goal.invariant-loop-pair
invariant-loop-pair l = pointwise attribute_eq l.pair-iterator l.others ≡ pointwise attribute_eq l.initial.pair-iterator l.initial.others
