-- Command packets are written as they were read.
use Rattle.std.proofs.Common.{refl}
use Rattle.mysql_stmt.specs.Close.{close}
use Rattle.mysql_stmt.specs.ExecuteHead.{execute_head}
use Rattle.mysql_stmt.specs.LongData.{long_data}
use Rattle.mysql_stmt.specs.StmtFetch.{stmt_fetch}
use Rattle.mysql_stmt.specs.StmtReset.{stmt_reset}
use Rattle.mysql_repl.specs.BinlogDump.{binlog_dump}
use Rattle.mysql_repl.specs.RegisterSlave.{register_slave, register_slave_head, register_slave_end}
use Rattle.mysql_repl.specs.TableDump.{table_dump}
use Rattle.mysql_commands.specs.BulkExecute.{bulk_execute}
use Rattle.mysql_commands.specs.FieldList.{field_list}
use Rattle.mysql_commands.specs.SetOption.{set_option}
use Rattle.mysql_commands.specs.StmtExecute.{stmt_execute}
use Rattle.mysql_commands.specs.Unknown.{unknown}
use Rattle.mysql_commands.specs.AsRead.{Exact}
use Rattle.mysql_commands.proofs.AsRead.{as-read, part, parts, no_part, in_block, const_part, raw_part, flags_part, null_part, left_part, u8_string_part}

pub field_list-exact : Exact (field_list.form tt) field_list.bytes
unfolding field_list
field_list-exact = as-read field_list tt (parts (const_part 0x04) (λ header. parts null_part (λ table. parts left_part (λ wildcard. no_part _))))
    (λ v before rest s. rw s.3.3.3.0 refl)

pub bulk_execute-exact : Exact (bulk_execute.form tt) bulk_execute.bytes
unfolding bulk_execute
bulk_execute-exact = as-read bulk_execute tt (parts (const_part 0xfa) (λ header. parts (raw_part 4) (λ stmt_id. parts (flags_part 2) (λ flags. parts left_part (λ rows. no_part _)))))
    (λ v before rest s. rw s.3.3.3.3.0 refl)

pub long_data-exact : Exact (long_data.form tt) long_data.bytes
unfolding long_data
long_data-exact = as-read long_data tt (parts (const_part 0x18) (λ header. parts (raw_part 4) (λ stmt_id. parts (raw_part 2) (λ index. parts left_part (λ content. no_part _)))))
    (λ v before rest s. rw s.3.3.3.3.0 refl)

pub table_dump-exact : Exact (table_dump.form tt) table_dump.bytes
unfolding table_dump
table_dump-exact = as-read table_dump tt (parts (const_part 0x13) (λ header. parts u8_string_part (λ database. parts u8_string_part (λ table. no_part _))))
    (λ v before rest s. rw s.3.3.3.0 refl)

pub unknown-exact : Exact (unknown.form tt) unknown.bytes
unfolding unknown
unknown-exact = as-read unknown tt (parts (raw_part 1) (λ code. parts left_part (λ content. no_part _)))
    (λ v before rest s. rw s.3.3.0 refl)

pub close-exact : Exact (close.form tt) close.bytes
unfolding close
close-exact = as-read close tt (in_block 5 (parts (const_part 0x19) (λ header. parts (raw_part 4) (λ stmt_id. no_part _))))
    (λ v before rest s. rw s.2.3.3.0 refl)

pub stmt_reset-exact : Exact (stmt_reset.form tt) stmt_reset.bytes
unfolding stmt_reset
stmt_reset-exact = as-read stmt_reset tt (in_block 5 (parts (const_part 0x1a) (λ header. parts (raw_part 4) (λ stmt_id. no_part _))))
    (λ v before rest s. rw s.2.3.3.0 refl)

pub stmt_fetch-exact : Exact (stmt_fetch.form tt) stmt_fetch.bytes
unfolding stmt_fetch
stmt_fetch-exact = as-read stmt_fetch tt (in_block 9 (parts (const_part 0x1c) (λ header. parts (raw_part 4) (λ stmt_id. parts (raw_part 4) (λ rows. no_part _)))))
    (λ v before rest s. rw s.2.3.3.3.0 refl)

pub set_option-exact : Exact (set_option.form tt) set_option.bytes
unfolding set_option
set_option-exact = as-read set_option tt (in_block 3 (parts (const_part 0x1b) (λ header. parts (raw_part 2) (λ code. no_part _))))
    (λ v before rest s. rw s.2.3.3.0 refl)

pub execute_head-exact : Exact (execute_head.form tt) execute_head.bytes
unfolding execute_head
execute_head-exact = as-read execute_head tt (in_block 10 (parts (const_part 0x17) (λ header. parts (raw_part 4) (λ stmt_id. parts (flags_part 1) (λ flags. parts (raw_part 4) (λ count. no_part _))))))
    (λ v before rest s. rw s.2.3.3.3.3.0 refl)

pub stmt_execute-exact : Exact (stmt_execute.form tt) stmt_execute.bytes
unfolding stmt_execute
stmt_execute-exact = as-read stmt_execute tt (parts (part execute_head.bytes execute_head-exact) (λ head. parts left_part (λ params. no_part _)))
    (λ v before rest s. rw s.3.3.0 refl)

pub binlog_dump-exact : Exact (binlog_dump.form tt) binlog_dump.bytes
unfolding binlog_dump
binlog_dump-exact = as-read binlog_dump tt (parts (in_block 11 (parts (const_part 0x12) (λ header. parts (raw_part 4) (λ pos. parts (flags_part 2) (λ flags. parts (raw_part 4) (λ server_id. no_part _)))))) (λ head. parts left_part (λ filename. no_part _)))
    (λ v before rest s. rw (s.3.3.0, s.2.2.3.3.3.3.0) refl)

pub register_slave-exact : Exact (register_slave.form tt) register_slave.bytes
unfolding register_slave register_slave_head register_slave_end
register_slave-exact = as-read register_slave tt (parts (in_block 5 (parts (const_part 0x15) (λ header. parts (raw_part 4) (λ server_id. no_part _)))) (λ head. parts u8_string_part (λ host. parts u8_string_part (λ user. parts u8_string_part (λ password. parts (in_block 10 (parts (raw_part 2) (λ port. parts (raw_part 4) (λ rank. parts (raw_part 4) (λ master_id. no_part _))))) (λ end. no_part _))))))
    (λ v before rest s. rw (s.3.3.3.3.3.0, s.2.2.3.3.0, s.3.3.3.3.2.2.3.3.3.0) refl)
