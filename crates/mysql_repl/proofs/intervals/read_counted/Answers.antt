use Rattle.std.proofs.Common.{◌∙◌, arith, false}
use Rattle.std.proofs.lemmas.Result.{err_from_is_err_and}
use Rattle.mysql_wire.proofs.Counted.{next-item, fails, all-read}
use Rattle.mysql_repl.specs.GnoInterval.{interval}
use Rattle.mysql_repl.proofs.SpaceRead.{answered-as}
use Rattle.mysql_repl.proofs.intervals.read_counted.Goals as goal

pub returns-in_err-item : goal.returns-in_err-item
returns-in_err-item c =
    let f = interval.form tt in
    let p = err_from_is_err_and c.from_residual-in_err-item.result c.from_residual-in_err-item.ensures.1 in
    let fault = fails f _ c.loop.intervals.items c.in_err-item.field-0.0 c.args.count c.loop.counter c.loop.buf _ c.loop-test.true c.in_err-item.ensures.value c.loop.invariant.read in
    record { value = rw (p.1, p.2) (answered-as false _ c.in_err-item.field-0.0 (f.reads c.loop.buf) _ (λ none. absurd cc) c.in_err-item.ensures.value fault) }

pub loop-preserved : goal.loop-preserved
loop-preserved c =
    record {
      read = rw c.push_reserved.ensures.items (next-item (interval.form tt) c.loop.intervals.items c.in_ok-item.item c.args.count c.loop.counter c.loop.buf c.parse.new.self _ c.loop-test.true c.in_ok-item.ensures.value c.loop.invariant.read);
      len = omega (arith, c.push_reserved.ensures.len, c.loop.invariant.len);
      capacity = c.push_reserved.ensures.capacity ∙ c.loop.invariant.capacity;
      left = omega (arith, c.in_ok-item.ensures.exact, c.loop.invariant.left);
    }

pub returns : goal.returns
returns c = record { value = all-read (interval.form tt) c.loop.intervals.items c.args.count c.loop.counter c.loop.buf _ c.loop-test.false c.loop.invariant.read }
