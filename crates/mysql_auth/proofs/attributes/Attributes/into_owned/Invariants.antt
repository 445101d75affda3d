use Rattle.std.proofs.Common.{◌≡◌, ◌++◌, ◌+◌, ◌≤◌, length, vec_len, vec_capacity}
use Rattle.std.specs.Vec.Iter.{into_iter_items}
use Rattle.mysql_auth.proofs.attributes.Attributes.into_owned.Given as goal

abbrev pub invariant-loop-attribute : goal.invariant-loop-attribute
invariant-loop-attribute l = record {
  moved : l.list.items ++ into_iter_items l.attribute-iterator ≡ into_iter_items l.initial.attribute-iterator;
  capacity : vec_len l.list + length (into_iter_items l.attribute-iterator) ≤ vec_capacity l.list;
}
