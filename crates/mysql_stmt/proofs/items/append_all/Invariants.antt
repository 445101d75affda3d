use Rattle.std.proofs.Common.{◌≡◌, ◌++◌, ◌≤◌, length, take, drop}
use Rattle.std.specs.List.{flat_map}
use Rattle.mysql_stmt.proofs.items.append_all.Given as goal

abbrev pub invariant-loop-item : goal.invariant-loop-item
invariant-loop-item g l =
    record {
      items : g.O.Buffer.held l.bytes ≡ g.O.Buffer.held l.fn.out ++ flat_map (g.F.ItemForm.item_bytes l.form) (take l.item-index l.items);
      after : g.O.Buffer.after l.bytes ≡ drop (length (flat_map (g.F.ItemForm.item_bytes l.form) (take l.item-index l.items))) (g.O.Buffer.after l.fn.out);
      capacity : g.O.Buffer.capacity l.fn.out ≤ g.O.Buffer.capacity l.bytes;
      kept : g.O.Buffer.kept l.bytes ≡ g.O.Buffer.kept l.fn.out;
    }
