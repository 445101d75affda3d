use Rattle.mysql_bulk.proofs.CopiedRow.{row_refused}
use Rattle.mysql_bulk.proofs.row.append_copies.Goals as goal

pub returns-in_default-clause-refused : goal.returns-in_default-clause-refused
returns-in_default-clause-refused g c =
    row_refused g.V.RowValue.content c.args.row.now c.loop-value.value-index c.value-item.result c.loop-value.left c.args.most c.loop-value-test.true c.value-item.is
    c.loop-value.invariant.size c.in_default.ensures.refused
