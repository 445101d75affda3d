use Rattle.std.proofs.Common.{Bool, ◌&&◌, map, drop, ◌+◌, sym, ap, ◌∙◌}
use Rattle.mysql_bulk.specs.BulkValue.{cell_of, spells_cells}
use Rattle.mysql_bulk.proofs.BulkValues.{not_as_long, spells_from}
use Rattle.mysql_bulk.proofs.bulk_value.spells_values.Goals as goal

pub returns-then-types-row : goal.returns-then-types-row
returns-then-types-row c = sym (not_as_long c.args.types.now c.args.row.now c.if-types-row.true)

pub returns-then-not-spells_cell : goal.returns-then-not-spells_cell
returns-then-not-spells_cell c =
    let k = c.loop-place.invariant in
    let i = c.loop-place.place in
    let after = spells_cells (drop (i + 1) c.args.types.now) (map cell_of (drop (i + 1) c.args.row.now)) in
    sym (k.left ∙ spells_from c.args.types.now c.args.row.now i _ _ k.lengths c.loop-place-test.true ∙ ap (λ (b : Bool). b && after) (sym c.spells_cell.ensures ∙ c.if-not-spells_cell.true))

pub loop-place-preserved : goal.loop-place-preserved
loop-place-preserved c =
    let k = c.loop-place.invariant in
    let i = c.loop-place.place in
    let after = spells_cells (drop (i + 1) c.args.types.now) (map cell_of (drop (i + 1) c.args.row.now)) in
    record {
      lengths = k.lengths;
      left = k.left ∙ spells_from c.args.types.now c.args.row.now i _ _ k.lengths c.loop-place-test.true ∙ ap (λ (b : Bool). b && after) (sym c.spells_cell.ensures ∙ c.if-not-spells_cell.false);
    }
