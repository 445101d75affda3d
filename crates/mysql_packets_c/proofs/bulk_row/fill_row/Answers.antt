use Rattle.std.proofs.Common.{refl}
use Rattle.std.proofs.lemmas.Result.{err_from_is_err_and}
use Rattle.mysql_packets_c.specs.BulkRow.{param_held}
use Rattle.mysql_packets_c.proofs.ReadBulkRows.{all-values, one-value, row-refused, row-whole, value-refused}
use Rattle.mysql_packets_c.proofs.bulk_row.fill_row.Goals as goal

pub returns-in_err-param-clause-value : goal.returns-in_err-param-clause-value
returns-in_err-param-clause-value c =
    let l = c.loop-place in
    let p = err_from_is_err_and c.from_residual.result c.from_residual.ensures.1 in
    let refused = value-refused c.args.types.now c.args.buf.now l.buf c.args.values.now l.values c.args.indicators.now l.indicators l.place _ _ c.in_err-param.field-0.0 l.invariant c.loop-place-test.true refl c.in_err-param.ensures.value in
    rw (p.1, p.2) refused

pub returns-in_err-param-clause-places : goal.returns-in_err-param-clause-places
returns-in_err-param-clause-places c =
    let l = c.loop-place in
    row-refused c.args.types.now c.args.buf.now l.buf c.args.values.now l.values c.args.indicators.now l.indicators l.place _ _ c.in_err-param.field-0.0 l.invariant c.requires.indicators c.loop-place-test.true refl c.in_err-param.ensures.value

pub loop-place-preserved : goal.loop-place-preserved
loop-place-preserved c =
    let l = c.loop-place in
    one-value c.args.types.now c.args.buf.now l.buf c.read_param.new.buf c.args.values.now l.values c.args.indicators.now l.indicators l.place c.code.result _ _ c.put_ref.new.place _
    (param_held c.in_ok-param.param.0 c.in_ok-param.param.1) l.invariant c.loop-place-test.true c.requires.values c.requires.indicators refl c.in_ok-param.ensures.value c.put_ref.ensures.content
    c.put_ref.ensures.set c.code.ensures

pub returns-clause-value : goal.returns-clause-value
returns-clause-value c =
    let l = c.loop-place in
    all-values c.args.types.now c.args.buf.now l.buf c.args.values.now l.values c.args.indicators.now l.indicators l.place l.invariant c.loop-place-test.false

pub returns-clause-places : goal.returns-clause-places
returns-clause-places c =
    let l = c.loop-place in
    row-whole c.args.types.now c.args.buf.now l.buf c.args.values.now l.values c.args.indicators.now l.indicators l.place l.invariant c.requires.indicators c.loop-place-test.false
