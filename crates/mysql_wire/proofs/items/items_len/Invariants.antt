use Rattle.std.proofs.Common.{◌≡◌, length, take}
use Rattle.std.specs.List.{flat_map}
use Rattle.mysql_wire.specs.Writing.{saturated}
use Rattle.mysql_wire.proofs.items.items_len.Given as goal

abbrev pub invariant-loop-value : goal.invariant-loop-value
invariant-loop-value g l = l.total ≡ saturated (length (flat_map g.T.MySerialize.bytes (take l.value-index l.values)))
