use Rattle.std.proofs.Common.{◌≡◌, length, rules}
use Rattle.std.proofs.lemmas.List.{nil_from_length}
use Rattle.mysql_values.specs.Params.{RefusesNames}
use Rattle.mysql_values.proofs.NamedValues.{next-name, refused-name, all-named, no-names}
use Rattle.mysql_values.proofs.params.values_of_names.Goals as goal

pub returns-in_err-value_of_name-clause-err : goal.returns-in_err-value_of_name-clause-err
returns-in_err-value_of_name-clause-err c =
    let refuses : RefusesNames c.args.values.now c.args.names.now c.in_err-value_of_name.field-0.0 = refused-name c.args.values.now c.args.names.now c.loop-name.name-index c.name-item.result c.loop-name.row.items c.in_err-value_of_name.field-0.0 c.loop-name-test.true c.name-item.is c.in_err-value_of_name.ensures.err c.loop-name.invariant in
    search rules

pub loop-name-preserved : goal.loop-name-preserved
loop-name-preserved c =
    let copied = c.in_ok-value_of_name.ensures.ok in
    rw c.in_ok-push.ensures.items (next-name c.args.values.now c.args.names.now c.loop-name.name-index c.name-item.result copied.0 c.in_ok-value_of_name.field-0 c.loop-name.row.items _ c.loop-name-test.true c.name-item.is copied.1 copied.2 c.loop-name.invariant)

pub returns-clause-ok : goal.returns-clause-ok
returns-clause-ok c = all-named c.args.values.now c.args.names.now c.loop-name.name-index c.loop-name.row.items _ c.loop-name-test.false c.loop-name.invariant

pub returns-then-is_empty-clause-ok : goal.returns-then-is_empty-clause-ok
returns-then-is_empty-clause-ok c =
    let zero : length c.args.names.now ≡ 0 = search rules in
    no-names c.args.values.now c.args.names.now c.new.result.items (nil_from_length c.args.names.now zero) c.new.ensures.items
