use Rattle.std.proofs.Common.{◌≡◌, ℕ, List, length, get_or, take, ap, ◌∙◌, arith}
use Rattle.std.specs.List.{flat_map}
use Rattle.std.proofs.lemmas.List.{length-append}
use Rattle.std.proofs.lemmas.List.Folds.{length-flat_map-take}
use Rattle.mysql_bulk.specs.ParamValue.{cell}
use Rattle.mysql_bulk.proofs.cells.append_cells.Goals as goal

pub append_cell-requires : goal.append_cell-requires
append_cell-requires g c =
    let bytes : g.row.V.Denot → List ℕ = λ v. cell (g.V.RowValue.content v) in
    let value = c.value-item.result in
    let fits = length-flat_map-take bytes c.args.values.now c.loop-value.value-index value c.loop-value-test.true in
    let this : length (bytes value) ≡ length (bytes (get_or c.args.values.now c.loop-value.value-index value)) = ap (λ x. length (bytes x)) c.value-item.is in
    let so_far = ap length c.loop-value.invariant.items ∙ length-append (g.O.Buffer.held c.args.out.now) (flat_map bytes (take c.loop-value.value-index c.args.values.now)) in
    omega (arith, fits, this, so_far, c.loop-value.invariant.capacity, c.requires)
