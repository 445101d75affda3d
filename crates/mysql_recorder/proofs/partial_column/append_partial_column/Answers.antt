use Rattle.mysql_recorder.proofs.Faults.{begins_none, fault_after}
use Rattle.mysql_recorder.proofs.partial_column.append_partial_column.Goals as goal

pub loop-name-init : goal.loop-name-init
loop-name-init c = begins_none c.args.fields.now.items

pub returns : goal.returns
returns c = record {
  ok = fault_after c.append_refused-2.result c.args.fault.now c.args.fields.now.items c.loop-name.fields.items c.append_refused-2.new.fields.items c.eat_all.result.now c.loop-name.invariant c.append_refused-2.ensures.ok;
}
