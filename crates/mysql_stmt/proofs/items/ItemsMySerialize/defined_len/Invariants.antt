use Rattle.std.proofs.Common.{◌≡◌, length, take}
use Rattle.std.specs.List.{flat_map}
use Rattle.mysql_wire.specs.Writing.{saturated}
use Rattle.mysql_stmt.proofs.items.ItemsMySerialize.defined_len.Given as goal

abbrev pub invariant-loop-item : goal.invariant-loop-item
invariant-loop-item g l = l.total ≡ saturated (length (flat_map (g.F.ItemForm.item_bytes l.self.form) (take l.item-index l.self.items.now)))
