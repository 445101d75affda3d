use Rattle.std.proofs.Common.{arith}
use Rattle.std.proofs.lemmas.Result.{err_from_is_err_and}
use Rattle.mysql_bulk.specs.Row.{contents_of_row}
use Rattle.mysql_bulk.specs.ParamsRun.{GivesRowOfParams}
use Rattle.mysql_bulk.proofs.RunSteps.{one_longer, taken_end}
use Rattle.mysql_bulk.proofs.ParamsRunSteps.{params_more, params_full, params_refused}
use Rattle.mysql_bulk.proofs.params_run.take_params.Goals as goal

pub returns-in_err-row-clause-accepts : goal.returns-in_err-row-clause-accepts
returns-in_err-row-clause-accepts g c =
    let p = err_from_is_err_and c.from_residual.result c.from_residual.ensures.1 in
    rw (p.1, p.2) (params_refused g.I.Iterator.next_gives c.loop-entry.invariant.so_far c.in-Some.entry c.next.new.self c.in-Some.ensures.steps c.add_params.new.self.state c.in_err-row.field-0.0 c.in_err-row.ensures.adds)

pub returns-in-Some-2-clause-accepts : goal.returns-in-Some-2-clause-accepts
returns-in-Some-2-clause-accepts g c =
    params_full g.I.Iterator.next_gives c.loop-entry.invariant.so_far c.in-Some.entry c.next.new.self c.in-Some.ensures.steps c.add_params.new.self.state c.in-Some-2.row (rw c.in-Some-2.is at c.in_ok-row.ensures.adds)

pub loop-entry-preserved : goal.loop-entry-preserved
loop-entry-preserved g c =
    let a = rw c.in_default-2.is at c.in_ok-row.ensures.adds in
    let calls_to_end = c.in-Some.ensures.goes.on c.loop-entry.invariant.ends in
    let less = c.loop-entry.invariant.less in
    record {
      can = calls_to_end.0;
      ends = calls_to_end.1;
      so_far = params_more g.I.Iterator.next_gives c.loop-entry.invariant.so_far c.in-Some.entry c.next.new.self c.in-Some.ensures.steps c.add_params.new.self.state a;
      less = omega (arith, less, calls_to_end.2, one_longer c.loop-entry.builder.state c.add_params.new.self.state (contents_of_row a.0) a.2.2);
    }

pub returns-clause-accepts : goal.returns-clause-accepts
returns-clause-accepts g c = taken_end (GivesRowOfParams g.I.Iterator.next_gives c.args.builder.now.state.names) c.next.new.self c.loop-entry.invariant.so_far c.in_default.ensures.steps
