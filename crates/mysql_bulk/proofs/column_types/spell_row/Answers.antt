use Rattle.std.proofs.Common.{sym, ap, ◌∙◌}
use Rattle.mysql_bulk.specs.ColumnTypes.{can_encode}
use Rattle.mysql_bulk.proofs.ColumnTypes.{not_as_long, spell_next}
use Rattle.mysql_bulk.proofs.column_types.spell_row.Goals as goal

pub returns-then-types-row : goal.returns-then-types-row
returns-then-types-row g c = sym (not_as_long g.V.RowValue.content c.args.types.now c.args.row.now c.if-types-row.true)

pub loop-place-preserved : goal.loop-place-preserved
loop-place-preserved g c =
    let k = c.loop-place.invariant in
    let spelled = c.can_encode.ensures ∙ ap (can_encode _) c.as_value_ref.ensures.value in
    record {
      lengths = k.lengths;
      left = k.left ∙ spell_next g.V.RowValue.content c.args.types.now c.args.row.now c.loop-place.place _ c.index-row-place.result c.can_encode.result k.lengths c.loop-place-test.true spelled c.index-row-place.is c.if-not-can_encode.false;
    }
