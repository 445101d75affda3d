use Rattle.std.proofs.Common.{◌-◌, ◌≡◌, arith}
use Rattle.std.proofs.lemmas.Result.{err_from_is_err_and}
use Rattle.mysql_repl.specs.GnoInterval.{interval}
use Rattle.mysql_wire.proofs.Passed.{skip-next, skip-fails, skip-done}
use Rattle.mysql_repl.proofs.intervals_ref.skip_intervals.Goals as goal

pub returns-in_err-_interval : goal.returns-in_err-_interval
returns-in_err-_interval c =
    let p = err_from_is_err_and c.from_residual.result c.from_residual.ensures.1 in
    record { value = rw (p.1, p.2) (skip-fails (interval.form tt) c.args.count c.loop.counter c.loop.buf c.in_err-_interval.field-0.0 _ c.loop-test.true c.in_err-_interval.ensures.value c.loop.invariant.read) }

pub loop-preserved : goal.loop-preserved
loop-preserved c =
    record { read = skip-next (interval.form tt) c.args.count c.loop.counter c.loop.buf c.parse.new.self c.in_ok-_interval._interval _ c.loop-test.true c.in_ok-_interval.ensures.value c.loop.invariant.read }

pub returns : goal.returns
returns c =
    let none : c.args.count - c.loop.counter ≡ 0 = omega (arith, c.loop-test.false) in
    record { value = skip-done (interval.form tt) c.args.count c.loop.counter c.loop.buf _ none c.loop.invariant.read }
