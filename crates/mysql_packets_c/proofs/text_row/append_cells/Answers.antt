use Rattle.std.proofs.Common.{◌≡◌, ◌∷◌, ap}
use Rattle.mysql_packets_c.proofs.Appends.{one-written, piece-fits}
use Rattle.mysql_packets_c.proofs.WrittenRows.{cells_bytes}
use Rattle.mysql_packets_c.proofs.text_row.append_cells.Goals as goal

pub append_cell-requires : goal.append_cell-requires
append_cell-requires g c =
    let parts : c.loop-value.left.items.now ≡ c.in-Some.value.now ∷ c.next.new.self.items.now = c.in-Some.ensures in
    piece-fits _ _ c.loop-value.invariant (ap cells_bytes parts) c.requires

pub loop-value-preserved : goal.loop-value-preserved
loop-value-preserved g c =
    let parts : c.loop-value.left.items.now ≡ c.in-Some.value.now ∷ c.next.new.self.items.now = c.in-Some.ensures in
    one-written c.loop-value.invariant (ap cells_bytes parts) c.append_cell.ensures
