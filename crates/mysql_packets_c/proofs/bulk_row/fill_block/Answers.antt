use Rattle.std.proofs.lemmas.Result.{err_from_is_err_and}
use Rattle.mysql_packets_c.proofs.ReadBulkRows.{all-filled, all-types, good-filled, one-type, type-refused}
use Rattle.mysql_packets_c.proofs.bulk_row.fill_block.Goals as goal

pub returns-in_err-param_type : goal.returns-in_err-param_type
returns-in_err-param_type c =
    let p = err_from_is_err_and c.from_residual.result c.from_residual.ensures.1 in
    let refused = type-refused c.args.block.now c.loop-place.block c.args.types.now c.loop-place.types c.loop-place.place c.in_err-param_type.field-0.0 c.loop-place.invariant c.loop-place-test.true c.in_err-param_type.ensures.value in
    let filled = good-filled c.args.block.now c.loop-place.block c.args.types.now c.loop-place.types c.loop-place.place c.in_err-param_type.field-0.0 c.loop-place.invariant c.loop-place-test.true c.in_err-param_type.ensures.value in
    record { value = rw (p.1, p.2) refused; places = filled }

pub loop-place-preserved : goal.loop-place-preserved
loop-place-preserved c =
    one-type c.args.block.now c.loop-place.block c.parse.new.self c.args.types.now c.loop-place.types c.loop-place.place c.in_ok-param_type.param_type c.type_held.result
    c.loop-place.invariant c.loop-place-test.true c.in_ok-param_type.ensures.value c.type_held.ensures.value

pub returns : goal.returns
returns c = record {
  value = all-types c.args.block.now c.loop-place.block c.args.types.now c.loop-place.types c.loop-place.place c.loop-place.invariant c.loop-place-test.false;
  places = all-filled c.args.block.now c.loop-place.block c.args.types.now c.loop-place.types c.loop-place.place c.loop-place.invariant c.loop-place-test.false;
}
