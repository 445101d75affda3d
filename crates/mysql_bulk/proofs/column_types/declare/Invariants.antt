use Rattle.std.proofs.Common.{◌≡◌, ◌≤◌, length, take}
use Rattle.std.specs.Prelude.{vec_capacity, vec_len}
use Rattle.mysql_bulk.proofs.column_types.declare.Given as goal

abbrev pub invariant-loop-kind : goal.invariant-loop-kind
invariant-loop-kind l = record {
  so_far : l.types.items ≡ take l.kind-index l.declared;
  count : vec_len l.types ≡ l.kind-index;
  capacity : length l.declared ≤ vec_capacity l.types;
  kept : vec_capacity l.initial.types ≤ vec_capacity l.types;
}
