use Rattle.std.proofs.Common.{◌≡◌, ◌∙◌, ◌<◌, length, arith, rules}
use Rattle.mysql_stmt.specs.ExecuteRead.{TypedParam, read_as}
use Rattle.mysql_packets_c.specs.Execution.{content_of, last_left}
use Rattle.mysql_packets_c.proofs.Executions.{none-left, one-content, one-type}
use Rattle.mysql_packets_c.proofs.FilledRows.{one-param-set, others-kept}
use Rattle.mysql_packets_c.proofs.execution.fill_params.Goals as goal

pub loop-place-preserved : goal.loop-place-preserved
loop-place-preserved c =
    let ps = c.args.params.now in
    let sent = c.loop-place.sent in
    let values = c.loop-place.values in
    let types = c.loop-place.types in
    let place = c.loop-place.place in
    let inv = c.loop-place.invariant in
    let value = c.put_param.new.place in
    let held = c.type_held.result in
    let pair : TypedParam = read_as c.in_ok-it.it in
    let after = c.param_at.new.sent in
    let first = last_left c.args.sent.now ps in
    let gives = c.in_ok-it.ensures.given in
    let fits : place < length values = omega (arith, c.loop-place-test.true, inv.value_places, c.requires.values) in
    let fits_types : place < length types = omega (arith, c.loop-place-test.true, inv.type_places, c.requires.types) in
    record {
      count = omega (arith, inv.count, gives.left);
      contents = one-content values place value first.params (last_left sent ps).params (last_left after ps).params pair inv.contents gives.params c.put_param.ensures.content fits;
      types = one-type types place held first.params (last_left sent ps).params (last_left after ps).params pair inv.types gives.params c.type_held.ensures.value fits_types;
      rest = record { end = gives.end ∙ inv.rest.end; attributes = gives.attributes ∙ inv.rest.attributes };
      value_places = search rules;
      type_places = search rules;
      set = one-param-set c.args.values.now values place value _ (content_of pair.param) inv.set inv.other_values inv.value_places fits c.put_param.ensures.content c.put_param.ensures.set;
      other_values = others-kept c.args.values.now values place value inv.other_values;
      other_types = others-kept c.args.types.now types place held inv.other_types;
    }

pub returns-clause-all : goal.returns-clause-all
returns-clause-all c =
    let none : c.loop-place.sent.left ≡ 0 = omega (arith, c.loop-place.invariant.count, c.loop-place-test.false) in
    (none-left c.loop-place.sent c.args.params.now none).none
