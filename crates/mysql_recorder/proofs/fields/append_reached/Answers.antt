use Rattle.std.proofs.Common.{Err, Ok}
use Rattle.mysql_observer.specs.Observed.{tracked}
use Rattle.mysql_recorder.proofs.Adds.{reached_appended, reached_fault}
use Rattle.mysql_recorder.proofs.fields.append_reached.Goals as goal

pub returns-in-Ok : goal.returns-in-Ok
returns-in-Ok c =
    let reached = c.in-Some.ensures.some in record {
      ok = reached_appended c.append_reached_record.result c.args.observer.now (tracked c.args.observer.now).reached reached.0 c.in-Some.execution.now c.payload-payload.result.now c.number.result (Ok c.in-Ok.record)
          c.args.fields.now.items c.append_reached_record.new.fields.items reached.1 reached.2 c.payload-payload.ensures.value c.number.ensures.value c.if-payload-le-EXECUTE_HEAD.false
          c.in-Ok.ensures.packet c.append_reached_record.ensures.ok;
    }

pub returns-in_ok-push-in-Err : goal.returns-in_ok-push-in-Err
returns-in_ok-push-in-Err c =
    let reached = c.in-Some.ensures.some in record {
      ok = reached_appended c.append_refused.result c.args.observer.now (tracked c.args.observer.now).reached reached.0 c.in-Some.execution.now c.payload-payload.result.now c.number-in-Err.result (Err c.in-Err.fault)
          c.args.fields.now.items c.append_refused.new.fields.items reached.1 reached.2 c.payload-payload.ensures.value c.number-in-Err.ensures.value c.if-payload-le-EXECUTE_HEAD.false
          c.in-Err.ensures.fault
          (reached_fault c.append_refused.result c.number-in-Err.result c.payload-payload.result.now c.in-Err.fault c.args.fields.now.items c.push.new.self.items c.append_refused.new.fields.items c.number-in-Err-2.result
          c.in_ok-push-in-Err.ensures.items c.number-in-Err-2.ensures.value c.append_refused.ensures.ok);
    }
