-- A command, by its first byte.
use Rattle.std.specs.Prelude.{ℕ, List, [], ◌∷◌, false, Option, Some, None, option_map}
use Rattle.mysql_wire.specs.Codec.{Codec}
use Rattle.mysql_wire.specs.Codecs.{without_context}
use Rattle.mysql_wire.specs.Flags.{CapabilityFlags}
use Rattle.mysql_wire.specs.Form.{Form, looking, map}
use Rattle.mysql_wire.specs.Int.{raw_int}
use Rattle.mysql_wire.specs.ServerCommand.{server_command_of}
use Rattle.mysql_wire.specs.declared.codes.server_command.ServerCommand.{ServerCommand}
use Rattle.mysql_wire.specs.declared.codes.server_command.ServerCommand.TheVariants as name
use Rattle.mysql_auth.specs.ComChangeUser.{change_user_as_sent}
use Rattle.mysql_stmt.specs.Close.{close}
use Rattle.mysql_stmt.specs.LongData.{long_data}
use Rattle.mysql_stmt.specs.StmtFetch.{stmt_fetch}
use Rattle.mysql_stmt.specs.StmtReset.{stmt_reset}
use Rattle.mysql_repl.specs.BinlogDump.{binlog_dump}
use Rattle.mysql_repl.specs.BinlogDumpGtid.{gtid_dump}
use Rattle.mysql_repl.specs.RegisterSlave.{register_slave}
use Rattle.mysql_repl.specs.TableDump.{table_dump}
use Rattle.mysql_commands.specs.After.{after, fixed, text, one_byte, optional_byte, one_number}
use Rattle.mysql_commands.specs.WithRawBytes.{command_as_sent}
use Rattle.mysql_commands.specs.BulkExecute.{bulk_execute}
use Rattle.mysql_commands.specs.FieldList.{field_list}
use Rattle.mysql_commands.specs.Query.{query}
use Rattle.mysql_commands.specs.SetOption.{set_option}
use Rattle.mysql_commands.specs.StmtExecute.{stmt_execute}
use Rattle.mysql_commands.specs.Unknown.{unknown_command}
use Rattle.mysql_commands.specs.declared.command.Command.{Command}
use Rattle.mysql_commands.specs.declared.command.Command.TheVariants as variant

-- ---- reading: the first byte selects the form

-- a command from the codec's value
abbrev pub reads_as : {C A : Type 0} → Codec C A → C → (A → Command) → Form Command
reads_as f c make = map make (f.form c)

abbrev pub command_named : CapabilityFlags → Option ServerCommand → Form Command
command_named c (Some name.COM_QUIT) = reads_as (fixed name.COM_QUIT) c (λ u. variant.Quit)
command_named c (Some name.COM_INIT_DB) = reads_as (text name.COM_INIT_DB) c variant.InitDb
command_named c (Some name.COM_QUERY) = reads_as query c variant.Query
command_named c (Some name.COM_FIELD_LIST) = reads_as (without_context field_list) c variant.FieldList
command_named c (Some name.COM_CREATE_DB) = reads_as (text name.COM_CREATE_DB) c variant.CreateDb
command_named c (Some name.COM_DROP_DB) = reads_as (text name.COM_DROP_DB) c variant.DropDb
command_named c (Some name.COM_REFRESH) = reads_as (one_byte name.COM_REFRESH) c (λ options. variant.Refresh options.0)
command_named c (Some name.COM_SHUTDOWN) = reads_as (after name.COM_SHUTDOWN optional_byte) c (λ level. variant.Shutdown (option_map (λ n. n.0) level))
command_named c (Some name.COM_STATISTICS) = reads_as (fixed name.COM_STATISTICS) c (λ u. variant.Statistics)
command_named c (Some name.COM_PROCESS_INFO) = reads_as (fixed name.COM_PROCESS_INFO) c (λ u. variant.ProcessInfo)
command_named c (Some name.COM_PROCESS_KILL) = reads_as (one_number name.COM_PROCESS_KILL) c (λ id. variant.ProcessKill id.0)
command_named c (Some name.COM_DEBUG) = reads_as (fixed name.COM_DEBUG) c (λ u. variant.Debug)
command_named c (Some name.COM_PING) = reads_as (fixed name.COM_PING) c (λ u. variant.Ping)
command_named c (Some name.COM_CHANGE_USER) = reads_as (command_as_sent name.COM_CHANGE_USER change_user_as_sent.form) c variant.ChangeUser
command_named c (Some name.COM_BINLOG_DUMP) = reads_as (without_context binlog_dump) c variant.BinlogDump
command_named c (Some name.COM_TABLE_DUMP) = reads_as (without_context table_dump) c variant.TableDump
command_named c (Some name.COM_REGISTER_SLAVE) = reads_as (without_context register_slave) c variant.RegisterSlave
command_named c (Some name.COM_STMT_PREPARE) = reads_as (text name.COM_STMT_PREPARE) c variant.StmtPrepare
command_named c (Some name.COM_STMT_EXECUTE) = reads_as (without_context stmt_execute) c variant.StmtExecute
command_named c (Some name.COM_STMT_SEND_LONG_DATA) = reads_as (without_context long_data) c variant.StmtSendLongData
command_named c (Some name.COM_STMT_CLOSE) = reads_as (without_context close) c variant.StmtClose
command_named c (Some name.COM_STMT_RESET) = reads_as (without_context stmt_reset) c variant.StmtReset
command_named c (Some name.COM_SET_OPTION) = reads_as (without_context set_option) c variant.SetOption
command_named c (Some name.COM_STMT_FETCH) = reads_as (without_context stmt_fetch) c variant.StmtFetch
command_named c (Some name.COM_BINLOG_DUMP_GTID) = reads_as (command_as_sent name.COM_BINLOG_DUMP_GTID (λ c. gtid_dump.form false)) c variant.BinlogDumpGtid
command_named c (Some name.COM_RESET_CONNECTION) = reads_as (fixed name.COM_RESET_CONNECTION) c (λ u. variant.ResetConnection)
command_named c (Some name.COM_STMT_BULK_EXECUTE) = reads_as (without_context bulk_execute) c variant.StmtBulkExecute
command_named c other = reads_as unknown_command c variant.Unknown

-- no byte is no command: the code is missing
abbrev pub command_at : CapabilityFlags → List ℕ → Form Command
command_at c [] = command_named c None
command_at c (code ∷ rest) = command_named c (server_command_of code)

-- the flags that both sides set
unfoldable pub command : CapabilityFlags → Form Command
command c = looking (command_at c)

-- ---- writing

-- what a codec writes of a value, and when that is read back before these bytes
pub record Written : Type 1 where
  pub bytes : List ℕ
  pub fits : CapabilityFlags → (rest : List ℕ) → Type 0

abbrev pub written_by : {A : Type 0} → Codec CapabilityFlags A → A → Written
written_by codec value = record { bytes = codec.bytes value; fits = λ c rest. codec.fits c value rest }

abbrev pub written : Command → Written
written variant.Quit = written_by (fixed name.COM_QUIT) tt
written (variant.InitDb schema) = written_by (text name.COM_INIT_DB) schema
written (variant.Query p) = written_by query p
written (variant.FieldList p) = written_by (without_context field_list) p
written (variant.CreateDb schema) = written_by (text name.COM_CREATE_DB) schema
written (variant.DropDb schema) = written_by (text name.COM_DROP_DB) schema
written (variant.Refresh options) = written_by (one_byte name.COM_REFRESH) (raw_int options)
written (variant.Shutdown level) = written_by (after name.COM_SHUTDOWN optional_byte) (option_map raw_int level)
written variant.Statistics = written_by (fixed name.COM_STATISTICS) tt
written variant.ProcessInfo = written_by (fixed name.COM_PROCESS_INFO) tt
written (variant.ProcessKill id) = written_by (one_number name.COM_PROCESS_KILL) (raw_int id)
written variant.Debug = written_by (fixed name.COM_DEBUG) tt
written variant.Ping = written_by (fixed name.COM_PING) tt
written (variant.ChangeUser p) = written_by (command_as_sent name.COM_CHANGE_USER change_user_as_sent.form) p
written (variant.BinlogDump p) = written_by (without_context binlog_dump) p
written (variant.TableDump p) = written_by (without_context table_dump) p
written (variant.RegisterSlave p) = written_by (without_context register_slave) p
written (variant.StmtPrepare query) = written_by (text name.COM_STMT_PREPARE) query
written (variant.StmtExecute p) = written_by (without_context stmt_execute) p
written (variant.StmtSendLongData p) = written_by (without_context long_data) p
written (variant.StmtClose p) = written_by (without_context close) p
written (variant.StmtReset p) = written_by (without_context stmt_reset) p
written (variant.SetOption p) = written_by (without_context set_option) p
written (variant.StmtFetch p) = written_by (without_context stmt_fetch) p
written (variant.BinlogDumpGtid p) = written_by (command_as_sent name.COM_BINLOG_DUMP_GTID (λ c. gtid_dump.form false)) p
written variant.ResetConnection = written_by (fixed name.COM_RESET_CONNECTION) tt
written (variant.StmtBulkExecute p) = written_by (without_context bulk_execute) p
written (variant.Unknown p) = written_by unknown_command p

-- the defined bytes
unfoldable pub command_bytes : Command → List ℕ
command_bytes v = (written v).bytes

-- when they are read back
unfoldable pub CommandFits : CapabilityFlags → Command → List ℕ → Type 0
CommandFits c v rest = (written v).fits c rest
