use Rattle.std.proofs.Common.{◌∷◌, [], ◌≡◌}
use Rattle.mysql_recorder.specs.ChangeFields.{variable_fields}
use Rattle.mysql_recorder.proofs.Changes.{variables_step}
use Rattle.mysql_recorder.proofs.change_fields.append_variables.Goals as goal

pub loop-variable-preserved : goal.loop-variable-preserved
loop-variable-preserved c =
    let said : variable_fields (c.in-Some.variable ∷ []) ≡ c.bytes.result ∷ c.bytes-in-loop-variable.result ∷ [] = cc in
    variables_step c.loop-variable.variable-iterator c.next.new.self c.in-Some.variable c.args.fields.now.items c.loop-variable.fields.items c.push.new.self.items c.push-in-loop-variable.new.self.items
    c.bytes.result c.bytes-in-loop-variable.result (variable_fields c.args.variables) c.in-Some.ensures.steps c.in_ok-push.ensures.items c.in_ok-push-2.ensures.items said c.loop-variable.invariant
