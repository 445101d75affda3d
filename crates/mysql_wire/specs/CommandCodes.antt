-- The first bytes of commands: written by tools/tables.py from tables/commands.txt.
use Rattle.std.specs.Prelude.{ℕ}

abbrev pub COM_SLEEP : ℕ
COM_SLEEP = 0x00

abbrev pub COM_QUIT : ℕ
COM_QUIT = 0x01

abbrev pub COM_INIT_DB : ℕ
COM_INIT_DB = 0x02

abbrev pub COM_QUERY : ℕ
COM_QUERY = 0x03

abbrev pub COM_FIELD_LIST : ℕ
COM_FIELD_LIST = 0x04

abbrev pub COM_CREATE_DB : ℕ
COM_CREATE_DB = 0x05

abbrev pub COM_DROP_DB : ℕ
COM_DROP_DB = 0x06

abbrev pub COM_REFRESH : ℕ
COM_REFRESH = 0x07

abbrev pub COM_SHUTDOWN : ℕ
COM_SHUTDOWN = 0x08

abbrev pub COM_STATISTICS : ℕ
COM_STATISTICS = 0x09

abbrev pub COM_PROCESS_INFO : ℕ
COM_PROCESS_INFO = 0x0a

abbrev pub COM_CONNECT : ℕ
COM_CONNECT = 0x0b

abbrev pub COM_PROCESS_KILL : ℕ
COM_PROCESS_KILL = 0x0c

abbrev pub COM_DEBUG : ℕ
COM_DEBUG = 0x0d

abbrev pub COM_PING : ℕ
COM_PING = 0x0e

abbrev pub COM_TIME : ℕ
COM_TIME = 0x0f

abbrev pub COM_DELAYED_INSERT : ℕ
COM_DELAYED_INSERT = 0x10

abbrev pub COM_CHANGE_USER : ℕ
COM_CHANGE_USER = 0x11

abbrev pub COM_BINLOG_DUMP : ℕ
COM_BINLOG_DUMP = 0x12

abbrev pub COM_TABLE_DUMP : ℕ
COM_TABLE_DUMP = 0x13

abbrev pub COM_CONNECT_OUT : ℕ
COM_CONNECT_OUT = 0x14

abbrev pub COM_REGISTER_SLAVE : ℕ
COM_REGISTER_SLAVE = 0x15

abbrev pub COM_STMT_PREPARE : ℕ
COM_STMT_PREPARE = 0x16

abbrev pub COM_STMT_EXECUTE : ℕ
COM_STMT_EXECUTE = 0x17

abbrev pub COM_STMT_SEND_LONG_DATA : ℕ
COM_STMT_SEND_LONG_DATA = 0x18

abbrev pub COM_STMT_CLOSE : ℕ
COM_STMT_CLOSE = 0x19

abbrev pub COM_STMT_RESET : ℕ
COM_STMT_RESET = 0x1a

abbrev pub COM_SET_OPTION : ℕ
COM_SET_OPTION = 0x1b

abbrev pub COM_STMT_FETCH : ℕ
COM_STMT_FETCH = 0x1c

abbrev pub COM_DAEMON : ℕ
COM_DAEMON = 0x1d

abbrev pub COM_BINLOG_DUMP_GTID : ℕ
COM_BINLOG_DUMP_GTID = 0x1e

abbrev pub COM_RESET_CONNECTION : ℕ
COM_RESET_CONNECTION = 0x1f

abbrev pub COM_CLONE : ℕ
COM_CLONE = 0x20

abbrev pub COM_SUBSCRIBE_GROUP_REPLICATION_STREAM : ℕ
COM_SUBSCRIBE_GROUP_REPLICATION_STREAM = 0x21

abbrev pub COM_STMT_BULK_EXECUTE : ℕ
COM_STMT_BULK_EXECUTE = 0xfa

abbrev pub COM_SLAVE_WORKER : ℕ
COM_SLAVE_WORKER = 0xfb

abbrev pub COM_SLAVE_IO : ℕ
COM_SLAVE_IO = 0xfc

abbrev pub COM_SLAVE_SQL : ℕ
COM_SLAVE_SQL = 0xfd

abbrev pub COM_MULTI : ℕ
COM_MULTI = 0xfe
