use Rattle.std.proofs.Common.{Ok}
use Rattle.mysql_recorder.proofs.Adds.{client_appended}
use Rattle.mysql_recorder.proofs.fields.append_client.Goals as goal

pub returns-in-Ok : goal.returns-in-Ok
returns-in-Ok c = record {
  ok = client_appended c.append_record.result c.args.observer.now c.args.kind c.args.payload.now (Ok c.in-Ok.record) c.args.fields.now.items c.append_command_name.new.fields.items c.append_record.new.fields.items
      c.in_ok-append_command_name.ensures.ok c.in-Ok.ensures.packet c.append_record.ensures.ok;
}
