-- A command is read back, by the codec of each command.
use Rattle.std.proofs.Common.{◌≡◌, ℕ, ◌<◌, ◌%◌, List, [], ◌∷◌, ◌++◌, false, Option, Some, None, sym, ap, subst, refl, arith}
use Rattle.mysql_wire.specs.Flags.{CapabilityFlags}
use Rattle.mysql_wire.specs.Int.{raw_int}
use Rattle.mysql_wire.specs.ServerCommand.{server_command_code, server_command_of}
use Rattle.mysql_wire.specs.Writing.{le_bytes}
use Rattle.mysql_wire.specs.declared.codes.server_command.ServerCommand.{ServerCommand}
use Rattle.mysql_wire.specs.declared.codes.server_command.ServerCommand.TheVariants as name
use Rattle.mysql_stmt.specs.Close.{close}
use Rattle.mysql_stmt.specs.ExecuteHead.{execute_head}
use Rattle.mysql_stmt.specs.LongData.{long_data}
use Rattle.mysql_stmt.specs.StmtFetch.{stmt_fetch}
use Rattle.mysql_stmt.specs.StmtReset.{stmt_reset}
use Rattle.mysql_repl.specs.BinlogDump.{binlog_dump}
use Rattle.mysql_repl.specs.RegisterSlave.{register_slave, register_slave_head}
use Rattle.mysql_repl.specs.TableDump.{table_dump}
use Rattle.mysql_commands.specs.After.{after, code_bytes, fixed, text, one_byte, optional_byte, one_number}
use Rattle.mysql_commands.specs.BulkExecute.{bulk_execute}
use Rattle.mysql_commands.specs.Command.{command, command_at, command_named, command_bytes, CommandFits, reads_as}
use Rattle.mysql_commands.specs.FieldList.{field_list}
use Rattle.mysql_commands.specs.Query.{query}
use Rattle.mysql_commands.specs.SetOption.{set_option}
use Rattle.mysql_commands.specs.StmtExecute.{stmt_execute}
use Rattle.mysql_commands.specs.Unknown.{code, content, unknown, unknown_command, has_record}
use Rattle.mysql_commands.specs.declared.unknown.UnknownCommand.{UnknownCommand}
use Rattle.mysql_commands.specs.declared.command.Command.{Command}
use Rattle.mysql_commands.specs.declared.command.Command.TheVariants as variant

-- the first byte selects the command
at-first : (c : CapabilityFlags) (v : Command) (code : ℕ) (more bytes rest : List ℕ) → bytes ≡ code ∷ more
    → (command_named c (server_command_of code)).Spells v bytes rest → (command_at c bytes).Spells v bytes rest
at-first c v code more bytes rest e s =
    subst (λ (l : List ℕ). (command_named c (server_command_of code)).Spells v l rest → (command_at c l).Spells v l rest) (sym e) (λ s. s) s

-- a name without a record is an unknown command
as-unknown : (c : CapabilityFlags) (o : Option ServerCommand) (v : Command) (bytes rest : List ℕ) → has_record o ≡ false
    → (reads_as unknown_command c variant.Unknown).Spells v bytes rest → (command_named c o).Spells v bytes rest
as-unknown c None v bytes rest e s = s
as-unknown c (Some name.COM_SLEEP) v bytes rest e s = s
as-unknown c (Some name.COM_CONNECT) v bytes rest e s = s
as-unknown c (Some name.COM_TIME) v bytes rest e s = s
as-unknown c (Some name.COM_DELAYED_INSERT) v bytes rest e s = s
as-unknown c (Some name.COM_CONNECT_OUT) v bytes rest e s = s
as-unknown c (Some name.COM_DAEMON) v bytes rest e s = s
as-unknown c (Some name.COM_CLONE) v bytes rest e s = s
as-unknown c (Some name.COM_SUBSCRIBE_GROUP_REPLICATION_STREAM) v bytes rest e s = s
as-unknown c (Some name.COM_SLAVE_WORKER) v bytes rest e s = s
as-unknown c (Some name.COM_SLAVE_IO) v bytes rest e s = s
as-unknown c (Some name.COM_SLAVE_SQL) v bytes rest e s = s
as-unknown c (Some name.COM_MULTI) v bytes rest e s = s
as-unknown c (Some other) v bytes rest e s = absurd cc

one-byte : (n : ℕ) → n < 256 → le_bytes 1 n ≡ n ∷ []
unfolding le_bytes
one-byte n lt = let e : n % 256 ≡ n = omega (arith, lt) in rw e refl

unknown-again : (c : CapabilityFlags) (p : UnknownCommand) (rest : List ℕ) → CommandFits c (variant.Unknown p) rest
    → (command c).Spells (variant.Unknown p) (command_bytes (variant.Unknown p) ++ rest) rest
unfolding command command_bytes CommandFits unknown
unknown-again c p rest h =
    let first : le_bytes 1 (code p) ≡ code p ∷ [] = one-byte (code p) (omega (arith, h.1.0)) in
    at-first c (variant.Unknown p) (code p) ((content p ++ []) ++ rest) ((le_bytes 1 (code p) ++ (content p ++ [])) ++ rest) rest
    (ap (λ (l : List ℕ). (l ++ (content p ++ [])) ++ rest) first)
    (as-unknown c (server_command_of (code p)) (variant.Unknown p) _ rest h.0 (p, refl, unknown.again tt p rest h.1))

pub command-again : (c : CapabilityFlags) (v : Command) (rest : List ℕ) → CommandFits c v rest → (command c).Spells v (command_bytes v ++ rest) rest
unfolding command command_bytes CommandFits code_bytes query le_bytes server_command_code server_command_of close execute_head long_data binlog_dump register_slave register_slave_head table_dump bulk_execute field_list set_option stmt_execute stmt_fetch stmt_reset unknown
command-again c variant.Quit rest h = (tt, refl, (fixed name.COM_QUIT).again c tt rest h)
command-again c variant.Statistics rest h = (tt, refl, (fixed name.COM_STATISTICS).again c tt rest h)
command-again c variant.ProcessInfo rest h = (tt, refl, (fixed name.COM_PROCESS_INFO).again c tt rest h)
command-again c variant.Debug rest h = (tt, refl, (fixed name.COM_DEBUG).again c tt rest h)
command-again c variant.Ping rest h = (tt, refl, (fixed name.COM_PING).again c tt rest h)
command-again c variant.ResetConnection rest h = (tt, refl, (fixed name.COM_RESET_CONNECTION).again c tt rest h)
command-again c (variant.InitDb t) rest h = (t, refl, (text name.COM_INIT_DB).again c t rest h)
command-again c (variant.CreateDb t) rest h = (t, refl, (text name.COM_CREATE_DB).again c t rest h)
command-again c (variant.DropDb t) rest h = (t, refl, (text name.COM_DROP_DB).again c t rest h)
command-again c (variant.StmtPrepare t) rest h = (t, refl, (text name.COM_STMT_PREPARE).again c t rest h)
command-again c (variant.Query p) rest h = (p, refl, query.again c p rest h)
command-again c (variant.FieldList p) rest h = (p, refl, field_list.again tt p rest h)
command-again c (variant.BinlogDump p) rest h = (p, refl, binlog_dump.again tt p rest h)
command-again c (variant.TableDump p) rest h = (p, refl, table_dump.again tt p rest h)
command-again c (variant.RegisterSlave p) rest h = (p, refl, register_slave.again tt p rest h)
command-again c (variant.StmtExecute p) rest h = (p, refl, stmt_execute.again tt p rest h)
command-again c (variant.StmtSendLongData p) rest h = (p, refl, long_data.again tt p rest h)
command-again c (variant.StmtClose p) rest h = (p, refl, close.again tt p rest h)
command-again c (variant.StmtReset p) rest h = (p, refl, stmt_reset.again tt p rest h)
command-again c (variant.SetOption p) rest h = (p, refl, set_option.again tt p rest h)
command-again c (variant.StmtFetch p) rest h = (p, refl, stmt_fetch.again tt p rest h)
command-again c (variant.StmtBulkExecute p) rest h = (p, refl, bulk_execute.again tt p rest h)
command-again c (variant.Refresh n) rest h = (raw_int n, refl, (one_byte name.COM_REFRESH).again c (raw_int n) rest h)
command-again c (variant.ProcessKill n) rest h = (raw_int n, refl, (one_number name.COM_PROCESS_KILL).again c (raw_int n) rest h)
command-again c (variant.Shutdown None) rest h = (None, refl, (after name.COM_SHUTDOWN optional_byte).again c None rest h)
command-again c (variant.Shutdown (Some n)) rest h = (Some (raw_int n), refl, (after name.COM_SHUTDOWN optional_byte).again c (Some (raw_int n)) rest h)
command-again c (variant.ChangeUser p) rest h =
    at-first c (variant.ChangeUser p) 17 (h.0.0 ++ rest) (p.bytes ++ rest) rest (ap (λ (l : List ℕ). l ++ rest) h.0.1) (p, refl, (h.1, refl))
command-again c (variant.BinlogDumpGtid p) rest h =
    at-first c (variant.BinlogDumpGtid p) 30 (h.0.0 ++ rest) (p.bytes ++ rest) rest (ap (λ (l : List ℕ). l ++ rest) h.0.1) (p, refl, (h.1, refl))
command-again c (variant.Unknown p) rest h = unknown-again c p rest h

pub ruleset commands_again = (command-again)
