use Rattle.std.proofs.lemmas.Result.{err_from_is_err_and}
use Rattle.mysql_bulk.proofs.RunSteps.{carried_more, carried_full, carried_refused}
use Rattle.mysql_bulk.proofs.run.fill.Goals as goal
use Rattle.mysql_bulk.proofs.run.fill.Goals.{in-Some+in_ok-row+in_default-2, in_default}

pub returns-in_err-row-clause-accepts : goal.returns-in_err-row-clause-accepts
returns-in_err-row-clause-accepts g c =
    let p = err_from_is_err_and c.from_residual.result c.from_residual.ensures.1 in
    rw (p.1, p.2, c.in-Some.is) (carried_refused g.I.Iterator.next_gives c.args.builder.now.state c.add.new.self.state c.in-Some.row c.in_err-row.field-0.0 c.args.rows.now c.in_err-row.ensures.adds)

pub returns-in-Some-2-clause-accepts : goal.returns-in-Some-2-clause-accepts
returns-in-Some-2-clause-accepts g c =
    rw c.in-Some.is (carried_full g.I.Iterator.next_gives c.args.builder.now.state c.add.new.self.state c.in-Some.row c.in-Some-2.row c.args.rows.now (rw c.in-Some-2.is at c.in_ok-row.ensures.adds))

pub returns-clause-accepts : goal.returns-clause-accepts
returns-clause-accepts g c =
    elim c.match-carried.branch [
      | in-Some+in_ok-row+in_default-2 w ↦
          rw w.in-Some.is (carried_more g.I.Iterator.next_gives c.args.builder.now.state w.add.new.self.state c.take_rows.new.builder.state w.in-Some.row c.args.rows.now c.take_rows.new.rows c.take_rows.result
          (rw w.in_default-2.is at w.in_ok-row.ensures.adds) (rw w.builder-is at c.take_rows.ensures.accepts))
      | in_default w ↦
          rw w.in_default.is (rw w.builder-is at c.take_rows.ensures.accepts)
    ]
