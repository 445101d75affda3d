use Rattle.std.proofs.Common.{Option, Err, subst, sym}
use Rattle.std.proofs.lemmas.Result.{err_from_is_err_and}
use Rattle.std.specs.Global.{Vec}
use Rattle.mysql_values.specs.declared.value.Value.{Value}
use Rattle.mysql_bulk.specs.ParamsRun.{AcceptsParamsUntilFull}
use Rattle.mysql_bulk.proofs.ParamsRunSteps.{params_carried, params_carried_full, params_carried_refused}
use Rattle.mysql_bulk.proofs.params_run.fill_params.Goals as goal
use Rattle.mysql_bulk.proofs.params_run.fill_params.Goals.{in-Some+in_ok-row+in_default-2, in_default}

pub returns-in_err-row-clause-accepts : goal.returns-in_err-row-clause-accepts
returns-in_err-row-clause-accepts g c =
    let p = err_from_is_err_and c.from_residual.result c.from_residual.ensures.1 in
    let F : Option (Vec Value) → Type 0 = λ o. AcceptsParamsUntilFull g.I.Iterator.next_gives c.args.builder.now.state.names c.args.builder.now.state o c.args.params.now (Err c.in_err-row.field-0.0) c.add_row.new.self.state c.args.params.now in
    rw (p.1, p.2) (subst F (sym c.in-Some.is) (params_carried_refused g.I.Iterator.next_gives c.args.builder.now.state c.add_row.new.self.state c.in-Some.row c.in_err-row.field-0.0 c.args.params.now c.in_err-row.ensures.adds))

pub returns-in-Some-2-clause-accepts : goal.returns-in-Some-2-clause-accepts
returns-in-Some-2-clause-accepts g c =
    rw c.in-Some.is (params_carried_full g.I.Iterator.next_gives c.args.builder.now.state c.add_row.new.self.state c.in-Some.row c.in-Some-2.row c.args.params.now (rw c.in-Some-2.is at c.in_ok-row.ensures.adds))

pub returns-clause-accepts : goal.returns-clause-accepts
returns-clause-accepts g c =
    elim c.match-carried.branch [
      | in-Some+in_ok-row+in_default-2 w ↦
          rw w.in-Some.is (params_carried g.I.Iterator.next_gives c.args.builder.now.state w.add_row.new.self.state c.take_params.new.builder.state w.in-Some.row c.args.params.now c.take_params.new.params c.take_params.result
          (rw w.in_default-2.is at w.in_ok-row.ensures.adds) (rw w.builder-is at c.take_params.ensures.accepts))
      | in_default w ↦ rw w.in_default.is (rw w.builder-is at c.take_params.ensures.accepts)
    ]
