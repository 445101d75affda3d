use Rattle.std.proofs.Common.{arith}
use Rattle.mysql_show.proofs.TextLines.{one_line, all_lines, plain_lines, stays_more}
use Rattle.mysql_show.proofs.text.append_lines.Goals as goal

pub loop-field-preserved : goal.loop-field-preserved
loop-field-preserved c = record {
  lines = one_line c.args.fields.now c.loop-field.field-index c.field-item.result _ _ _ (omega arith) c.field-item.is c.in_ok-append_line.ensures.line c.loop-field.invariant.lines;
  stays = stays_more _ _ _ c.loop-field.invariant.stays (c.in_ok-append_line.ensures.line.0, c.in_ok-append_line.ensures.line.2);
}

pub returns-clause-ok : goal.returns-clause-ok
returns-clause-ok c = plain_lines c.args.fields.now _ _ (all_lines c.args.fields.now c.loop-field.field-index _ _ (omega arith) c.loop-field.invariant.lines)

pub returns-clause-lines : goal.returns-clause-lines
returns-clause-lines c = all_lines c.args.fields.now c.loop-field.field-index _ _ (omega arith) c.loop-field.invariant.lines
