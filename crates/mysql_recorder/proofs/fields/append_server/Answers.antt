use Rattle.mysql_recorder.proofs.Adds.{fault_appended, server_appended}
use Rattle.mysql_recorder.proofs.Faults.{fault_alone}
use Rattle.mysql_recorder.proofs.fields.append_server.Goals as goal

pub returns-in-Ok : goal.returns-in-Ok
returns-in-Ok c = record {
  ok = server_appended c.server_fields.result c.args.observer.now c.args.kind c.args.payload.now c.in-Ok.packet c.args.fields.now.items c.append_reached.new.fields.items c.server_fields.new.fields.items
      c.in-Ok.ensures.packet c.in_ok-append_reached.ensures.ok c.server_fields.ensures.ok;
}

pub returns-in_default : goal.returns-in_default
returns-in_default c = record {
  ok = fault_appended c.append_refused.result c.args.observer.now c.args.kind c.args.payload.now c.in-Err.fault c.args.fields.now.items c.append_reached.new.fields.items c.append_refused.new.fields.items
      c.in-Err.ensures.fault c.in_ok-append_reached.ensures.ok
      (fault_alone c.append_refused.result c.in-Err.fault c.append_reached.new.fields.items c.append_refused.new.fields.items c.args.payload.now c.append_refused.ensures.ok);
}
