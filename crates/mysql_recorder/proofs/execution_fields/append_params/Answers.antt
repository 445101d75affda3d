use Rattle.std.proofs.Common.{◌≡◌, ap, ◌∙◌}
use Rattle.mysql_stmt.specs.ExecuteRead.{attributes_at, read_as}
use Rattle.mysql_recorder.specs.ValueFields.{param_said}
use Rattle.mysql_recorder.proofs.ValuesShown.{params_end, params_step}
use Rattle.mysql_recorder.proofs.execution_fields.append_params.Goals as goal

pub params-preserved : goal.params-preserved
params-preserved c =
    let is : c.field_of.result ≡ param_said (read_as c.in-Ok-Some.it) = cc (c.in-Ok-Some.it-is) in
    params_step c.args.params c.params.params c.next_param.new.self c.args.fields.now.items c.params.fields.items c.push.new.self.items (read_as c.in-Ok-Some.it) c.field_of.result
    c.params.invariant (rw c.in-Ok-Some.field-0-is at c.in-Ok-Some.ensures.value) is c.in_ok-push-in-Ok-Some.ensures.items

pub returns-in-Some : goal.returns-in-Some
returns-in-Some c =
    let given = rw c.in-Ok-None.field-0-is at c.in-Ok-None.ensures.value in record {
      ok = params_end c.append_attributes.result c.args.params c.params.params c.args.fields.now.items c.params.fields.items c.append_attributes.new.fields.items c.in-Some.attributes c.rest-rest.result
          c.params.invariant given.0 (c.rest-rest.ensures.value given.0.0) c.rest-rest.ensures.read (c.in-Some.ensures.value ∙ ap (λ p. attributes_at p.attributes p.rest) given.1) c.append_attributes.ensures.ok;
    }
