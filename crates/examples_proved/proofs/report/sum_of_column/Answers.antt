use Rattle.examples_proved.proofs.Places.{sums-next}
use Rattle.examples_proved.proofs.report.sum_of_column.Goals as goal

pub loop-row-preserved : goal.loop-row-preserved
loop-row-preserved c =
    sums-next c.args.columns c.args.place c.args.rows.now c.loop-row.row-index c.loop-row.total c.in_ok-number.number _ _
    c.loop-row-test.true c.loop-row.invariant c.in_ok-number.ensures.number c.in_ok-total.ensures.1
