use Rattle.mysql_recorder.proofs.Adds.{params_appended}
use Rattle.mysql_recorder.proofs.fields.append_reached_record.Goals as goal

pub returns-in_ok-push-in-Execution : goal.returns-in_ok-push-in-Execution
returns-in_ok-push-in-Execution c = record {
  ok = params_appended c.append_params.result c.args.number c.args.returned c.in-Execution._head c.in-Execution.params c.args.fields.now.items c.push.new.self.items c.append_params.new.fields.items c.number.result
      c.in-Execution.is c.in_ok-push-in-Execution.ensures.items c.number.ensures.value c.append_params.ensures.ok;
}
