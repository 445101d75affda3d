use Rattle.std.proofs.Common.{◌≡◌, ◌++◌, ◌+◌, ◌≤◌, length, vec_len, vec_capacity}
use Rattle.mysql_auth.proofs.merged.Merged.into_list.Given as goal

abbrev pub invariant-loop-key : goal.invariant-loop-key
invariant-loop-key l = record {
  moved : l.list.items ++ l.key-iterator ≡ l.initial.key-iterator;
  capacity : vec_len l.list + length l.key-iterator ≤ vec_capacity l.list;
}
