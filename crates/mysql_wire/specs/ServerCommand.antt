-- The commands: written by tools/tables.py from tables/commands.txt.
use Rattle.std.specs.Prelude.{◌≡◌, ℕ, List, [], ◌∷◌, Option, Some, refl}
use Rattle.mysql_wire.specs.declared.codes.server_command.ServerCommand.{ServerCommand}
use Rattle.mysql_wire.specs.declared.codes.server_command.ServerCommand.TheVariants as variant
use Rattle.mysql_wire.specs.declared.constant_value.Const.{Const}
use Rattle.mysql_wire.specs.Codes.{with_code, code-again}
use Rattle.mysql_wire.specs.CommandCodes.{COM_SLEEP, COM_QUIT, COM_INIT_DB, COM_QUERY, COM_FIELD_LIST, COM_CREATE_DB, COM_DROP_DB, COM_REFRESH, COM_SHUTDOWN, COM_STATISTICS, COM_PROCESS_INFO, COM_CONNECT, COM_PROCESS_KILL, COM_DEBUG, COM_PING, COM_TIME, COM_DELAYED_INSERT, COM_CHANGE_USER, COM_BINLOG_DUMP, COM_TABLE_DUMP, COM_CONNECT_OUT, COM_REGISTER_SLAVE, COM_STMT_PREPARE, COM_STMT_EXECUTE, COM_STMT_SEND_LONG_DATA, COM_STMT_CLOSE, COM_STMT_RESET, COM_SET_OPTION, COM_STMT_FETCH, COM_DAEMON, COM_BINLOG_DUMP_GTID, COM_RESET_CONNECTION, COM_CLONE, COM_SUBSCRIBE_GROUP_REPLICATION_STREAM, COM_STMT_BULK_EXECUTE, COM_SLAVE_WORKER, COM_SLAVE_IO, COM_SLAVE_SQL, COM_MULTI}
use Rattle.mysql_wire.specs.ConstantValue.{coded}
use Rattle.mysql_wire.specs.Form.{Form, number}
use Rattle.mysql_wire.specs.Spelling.{IsSpelling}
use Rattle.mysql_wire.specs.Writing.{le_bytes}

unfoldable pub server_command_code : ServerCommand → ℕ
server_command_code variant.COM_SLEEP = COM_SLEEP
server_command_code variant.COM_QUIT = COM_QUIT
server_command_code variant.COM_INIT_DB = COM_INIT_DB
server_command_code variant.COM_QUERY = COM_QUERY
server_command_code variant.COM_FIELD_LIST = COM_FIELD_LIST
server_command_code variant.COM_CREATE_DB = COM_CREATE_DB
server_command_code variant.COM_DROP_DB = COM_DROP_DB
server_command_code variant.COM_REFRESH = COM_REFRESH
server_command_code variant.COM_SHUTDOWN = COM_SHUTDOWN
server_command_code variant.COM_STATISTICS = COM_STATISTICS
server_command_code variant.COM_PROCESS_INFO = COM_PROCESS_INFO
server_command_code variant.COM_CONNECT = COM_CONNECT
server_command_code variant.COM_PROCESS_KILL = COM_PROCESS_KILL
server_command_code variant.COM_DEBUG = COM_DEBUG
server_command_code variant.COM_PING = COM_PING
server_command_code variant.COM_TIME = COM_TIME
server_command_code variant.COM_DELAYED_INSERT = COM_DELAYED_INSERT
server_command_code variant.COM_CHANGE_USER = COM_CHANGE_USER
server_command_code variant.COM_BINLOG_DUMP = COM_BINLOG_DUMP
server_command_code variant.COM_TABLE_DUMP = COM_TABLE_DUMP
server_command_code variant.COM_CONNECT_OUT = COM_CONNECT_OUT
server_command_code variant.COM_REGISTER_SLAVE = COM_REGISTER_SLAVE
server_command_code variant.COM_STMT_PREPARE = COM_STMT_PREPARE
server_command_code variant.COM_STMT_EXECUTE = COM_STMT_EXECUTE
server_command_code variant.COM_STMT_SEND_LONG_DATA = COM_STMT_SEND_LONG_DATA
server_command_code variant.COM_STMT_CLOSE = COM_STMT_CLOSE
server_command_code variant.COM_STMT_RESET = COM_STMT_RESET
server_command_code variant.COM_SET_OPTION = COM_SET_OPTION
server_command_code variant.COM_STMT_FETCH = COM_STMT_FETCH
server_command_code variant.COM_DAEMON = COM_DAEMON
server_command_code variant.COM_BINLOG_DUMP_GTID = COM_BINLOG_DUMP_GTID
server_command_code variant.COM_RESET_CONNECTION = COM_RESET_CONNECTION
server_command_code variant.COM_CLONE = COM_CLONE
server_command_code variant.COM_SUBSCRIBE_GROUP_REPLICATION_STREAM = COM_SUBSCRIBE_GROUP_REPLICATION_STREAM
server_command_code variant.COM_STMT_BULK_EXECUTE = COM_STMT_BULK_EXECUTE
server_command_code variant.COM_SLAVE_WORKER = COM_SLAVE_WORKER
server_command_code variant.COM_SLAVE_IO = COM_SLAVE_IO
server_command_code variant.COM_SLAVE_SQL = COM_SLAVE_SQL
server_command_code variant.COM_MULTI = COM_MULTI

abbrev pub server_commands : List ServerCommand
server_commands =
    variant.COM_SLEEP
    ∷ variant.COM_QUIT
    ∷ variant.COM_INIT_DB
    ∷ variant.COM_QUERY
    ∷ variant.COM_FIELD_LIST
    ∷ variant.COM_CREATE_DB
    ∷ variant.COM_DROP_DB
    ∷ variant.COM_REFRESH
    ∷ variant.COM_SHUTDOWN
    ∷ variant.COM_STATISTICS
    ∷ variant.COM_PROCESS_INFO
    ∷ variant.COM_CONNECT
    ∷ variant.COM_PROCESS_KILL
    ∷ variant.COM_DEBUG
    ∷ variant.COM_PING
    ∷ variant.COM_TIME
    ∷ variant.COM_DELAYED_INSERT
    ∷ variant.COM_CHANGE_USER
    ∷ variant.COM_BINLOG_DUMP
    ∷ variant.COM_TABLE_DUMP
    ∷ variant.COM_CONNECT_OUT
    ∷ variant.COM_REGISTER_SLAVE
    ∷ variant.COM_STMT_PREPARE
    ∷ variant.COM_STMT_EXECUTE
    ∷ variant.COM_STMT_SEND_LONG_DATA
    ∷ variant.COM_STMT_CLOSE
    ∷ variant.COM_STMT_RESET
    ∷ variant.COM_SET_OPTION
    ∷ variant.COM_STMT_FETCH
    ∷ variant.COM_DAEMON
    ∷ variant.COM_BINLOG_DUMP_GTID
    ∷ variant.COM_RESET_CONNECTION
    ∷ variant.COM_CLONE
    ∷ variant.COM_SUBSCRIBE_GROUP_REPLICATION_STREAM
    ∷ variant.COM_STMT_BULK_EXECUTE
    ∷ variant.COM_SLAVE_WORKER
    ∷ variant.COM_SLAVE_IO
    ∷ variant.COM_SLAVE_SQL
    ∷ variant.COM_MULTI
    ∷ []

-- the command with this code
unfoldable pub server_command_of : ℕ → Option ServerCommand
server_command_of n = with_code server_command_code server_commands n

pub server_command-back : (value : ServerCommand) → server_command_of (server_command_code value) ≡ Some value
unfolding server_command_code server_command_of
server_command-back variant.COM_SLEEP = refl
server_command-back variant.COM_QUIT = refl
server_command-back variant.COM_INIT_DB = refl
server_command-back variant.COM_QUERY = refl
server_command-back variant.COM_FIELD_LIST = refl
server_command-back variant.COM_CREATE_DB = refl
server_command-back variant.COM_DROP_DB = refl
server_command-back variant.COM_REFRESH = refl
server_command-back variant.COM_SHUTDOWN = refl
server_command-back variant.COM_STATISTICS = refl
server_command-back variant.COM_PROCESS_INFO = refl
server_command-back variant.COM_CONNECT = refl
server_command-back variant.COM_PROCESS_KILL = refl
server_command-back variant.COM_DEBUG = refl
server_command-back variant.COM_PING = refl
server_command-back variant.COM_TIME = refl
server_command-back variant.COM_DELAYED_INSERT = refl
server_command-back variant.COM_CHANGE_USER = refl
server_command-back variant.COM_BINLOG_DUMP = refl
server_command-back variant.COM_TABLE_DUMP = refl
server_command-back variant.COM_CONNECT_OUT = refl
server_command-back variant.COM_REGISTER_SLAVE = refl
server_command-back variant.COM_STMT_PREPARE = refl
server_command-back variant.COM_STMT_EXECUTE = refl
server_command-back variant.COM_STMT_SEND_LONG_DATA = refl
server_command-back variant.COM_STMT_CLOSE = refl
server_command-back variant.COM_STMT_RESET = refl
server_command-back variant.COM_SET_OPTION = refl
server_command-back variant.COM_STMT_FETCH = refl
server_command-back variant.COM_DAEMON = refl
server_command-back variant.COM_BINLOG_DUMP_GTID = refl
server_command-back variant.COM_RESET_CONNECTION = refl
server_command-back variant.COM_CLONE = refl
server_command-back variant.COM_SUBSCRIBE_GROUP_REPLICATION_STREAM = refl
server_command-back variant.COM_STMT_BULK_EXECUTE = refl
server_command-back variant.COM_SLAVE_WORKER = refl
server_command-back variant.COM_SLAVE_IO = refl
server_command-back variant.COM_SLAVE_SQL = refl
server_command-back variant.COM_MULTI = refl

-- a byte that is a command's code
abbrev pub server_command : Form (Const ServerCommand ℕ)
server_command = coded server_command_of (number 1)

-- a command is read back
pub server_command-again : (v : Const ServerCommand ℕ) → IsSpelling server_command v (le_bytes 1 (server_command_code v.0))
unfolding server_command_code server_command_of
server_command-again v = code-again server_command_code server_commands refl server_command-back v

pub ruleset server_command_again = (server_command-again)
