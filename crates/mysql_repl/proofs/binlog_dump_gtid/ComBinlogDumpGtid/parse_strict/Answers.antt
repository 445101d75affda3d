use Rattle.std.proofs.Common.{true}
use Rattle.mysql_repl.specs.BinlogDumpGtid.{gtid_dump}
use Rattle.mysql_repl.proofs.binlog_dump_gtid.ComBinlogDumpGtid.parse_strict.Goals as goal

pub returns-clause-spelled : goal.returns-clause-spelled
returns-clause-spelled c = (gtid_dump.form true).found _ _ _ (rw c.rest-rest.ensures at c.in_ok-request.ensures.value)
