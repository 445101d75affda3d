use Rattle.std.proofs.Common.{◌≡◌, ◌++◌, ◌+◌, ◌≤◌, length, map, vec_len, vec_capacity}
use Rattle.mysql_auth.specs.Attributes.{text_pair}
use Rattle.mysql_auth.proofs.attributes.Attributes.from_texts.Given as goal

abbrev pub invariant-loop-key : goal.invariant-loop-key
invariant-loop-key l = record {
  moved : l.list.items ++ map text_pair l.key-iterator ≡ map text_pair l.initial.key-iterator;
  capacity : vec_len l.list + length l.key-iterator ≤ vec_capacity l.list;
}
