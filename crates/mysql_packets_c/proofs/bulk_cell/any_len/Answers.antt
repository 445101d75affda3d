use Rattle.mysql_packets_c.proofs.BulkCells.{default-len, ignore-len}
use Rattle.mysql_packets_c.proofs.bulk_cell.any_len.Goals as goal

pub returns-in-9 : goal.returns-in-9
returns-in-9 c = default-len c.args.column.now c.args.value.now c.in-9.is

pub returns-in-10 : goal.returns-in-10
returns-in-10 c = ignore-len c.args.column.now c.args.value.now c.in-10.is
