use Rattle.mysql_packets_c.proofs.BinaryRows.{clear-marks}
use Rattle.mysql_packets_c.proofs.binary_row.mark_any.Goals as goal

pub returns-else-may_have_null : goal.returns-else-may_have_null
returns-else-may_have_null c = clear-marks c.args.values.now c.args.nulls.now (c.requires.none c.if-may_have_null.false) c.requires.clear
