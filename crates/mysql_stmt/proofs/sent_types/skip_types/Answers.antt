use Rattle.std.proofs.Common.{◌-◌, ◌≡◌, arith}
use Rattle.std.proofs.lemmas.Result.{err_from_is_err_and}
use Rattle.mysql_wire.proofs.Passed.{skip-next, skip-fails, skip-done}
use Rattle.mysql_stmt.specs.SentTypes.{sent_type}
use Rattle.mysql_stmt.proofs.sent_types.skip_types.Goals as goal

pub returns-in_err-_named_type : goal.returns-in_err-_named_type
returns-in_err-_named_type c =
    let p = err_from_is_err_and c.from_residual.result c.from_residual.ensures.1 in
    record { value = rw (p.1, p.2) (skip-fails (sent_type c.args.has_names) c.args.count c.loop.counter c.loop.buf c.in_err-_named_type.field-0.0 _ c.loop-test.true c.in_err-_named_type.ensures.value c.loop.invariant.read) }

pub loop-preserved : goal.loop-preserved
loop-preserved c =
    record { read = skip-next (sent_type c.args.has_names) c.args.count c.loop.counter c.loop.buf c.read_type.new.buf c.in_ok-_named_type._named_type _ c.loop-test.true c.in_ok-_named_type.ensures.value c.loop.invariant.read }

pub returns : goal.returns
returns c =
    let none : c.args.count - c.loop.counter ≡ 0 = omega (arith, c.loop-test.false) in
    record { value = skip-done (sent_type c.args.has_names) c.args.count c.loop.counter c.loop.buf _ none c.loop.invariant.read }
