use Rattle.std.proofs.Common.{◌≡◌, length, get_or, take, ap, ◌∙◌, arith}
use Rattle.std.specs.List.{flat_map}
use Rattle.std.proofs.lemmas.List.{length-append}
use Rattle.std.proofs.lemmas.List.Folds.{length-flat_map-take}
use Rattle.mysql_stmt.proofs.items.append_all.Goals as goal

pub append_item-requires : goal.append_item-requires
append_item-requires g c =
    let form = g.F.ItemForm.item_bytes c.args.form.now in
    let item = c.item-item.result in
    let items = c.args.items.now in
    let fits = length-flat_map-take form items c.loop-item.item-index item c.loop-item-test.true in
    let this : length (form item) ≡ length (form (get_or items c.loop-item.item-index item)) = ap (λ x. length (form x)) c.item-item.is in
    let so_far = ap length c.loop-item.invariant.items ∙ length-append (g.O.Buffer.held c.args.out.now) (flat_map form (take c.loop-item.item-index items)) in
    omega (arith, fits, this, so_far, c.loop-item.invariant.capacity, c.requires)
