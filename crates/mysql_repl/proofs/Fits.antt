-- The plain conditions are enough for the round trip.
use Rattle.std.proofs.Common.{ℕ, List}
use Rattle.mysql_repl.specs.declared.binlog_dump.ComBinlogDump.{ComBinlogDump}
use Rattle.mysql_repl.specs.declared.register_slave.ComRegisterSlave.{ComRegisterSlave}
use Rattle.mysql_repl.specs.declared.semi_sync_ack.SemiSyncAckPacket.{SemiSyncAckPacket}
use Rattle.mysql_repl.specs.declared.table_dump.ComTableDump.{ComTableDump}
use Rattle.mysql_repl.specs.BinlogDump.{binlog_dump, BinlogDumpFits}
use Rattle.mysql_repl.specs.RegisterSlave.{register_slave, register_slave_head, register_slave_end, RegisterSlaveFits}
use Rattle.mysql_repl.specs.SemiSyncAck.{semi_sync_ack, SemiSyncAckFits}
use Rattle.mysql_repl.specs.TableDump.{table_dump, TableDumpFits}

pub register_slave-fits : (p : ComRegisterSlave) (rest : List ℕ) → RegisterSlaveFits p → register_slave.fits tt p rest
unfolding register_slave register_slave_head register_slave_end
register_slave-fits p rest h =
    ((tt, (h.server_id, tt)), (h.hostname, (h.user, (h.password, ((h.port, (h.replication_rank, (h.master_id, tt))), tt)))))

pub table_dump-fits : (p : ComTableDump) (rest : List ℕ) → TableDumpFits p → table_dump.fits tt p rest
unfolding table_dump
table_dump-fits p rest h = (tt, (h.database, (h.table, tt)))

pub binlog_dump-fits : (p : ComBinlogDump) (rest : List ℕ) → BinlogDumpFits p rest → binlog_dump.fits tt p rest
unfolding binlog_dump
binlog_dump-fits p rest h = ((tt, (h.pos, (h.flags, (h.server_id, tt)))), (h.filename, tt))

pub semi_sync_ack-fits : (p : SemiSyncAckPacket) (rest : List ℕ) → SemiSyncAckFits p rest → semi_sync_ack.fits tt p rest
unfolding semi_sync_ack
semi_sync_ack-fits p rest h = ((tt, (h.position, tt)), (h.filename, tt))

pub ruleset plain_fits = (register_slave-fits, table_dump-fits, binlog_dump-fits, semi_sync_ack-fits)
