-- The flag words, and the masks of the flags, each named like its constant in src/flags: written by tools/tables.py from the tables of the
-- flags in tables/.
use Rattle.std.specs.Prelude.{ℕ}
use Rattle.mysql_wire.specs.declared.flags.FlagWord.{FlagWord}
use Rattle.mysql_wire.specs.declared.flags.binlog_dump_flags.BinlogDumpNames.{BinlogDumpNames}
use Rattle.mysql_wire.specs.declared.flags.capability_flags.CapabilityNames.{CapabilityNames}
use Rattle.mysql_wire.specs.declared.flags.column_flags.ColumnFlagNames.{ColumnFlagNames}
use Rattle.mysql_wire.specs.declared.flags.cursor_type.CursorNames.{CursorNames}
use Rattle.mysql_wire.specs.declared.flags.mariadb_capabilities.MariadbCapabilityNames.{MariadbCapabilityNames}
use Rattle.mysql_wire.specs.declared.flags.status_flags.StatusNames.{StatusNames}
use Rattle.mysql_wire.specs.declared.flags.stmt_bulk_execute_flags.StmtBulkExecuteNames.{StmtBulkExecuteNames}
use Rattle.mysql_wire.specs.declared.flags.stmt_execute_param_flags.StmtExecuteParamNames.{StmtExecuteParamNames}
use Rattle.mysql_wire.specs.declared.flags.stmt_execute_params_flags.StmtExecuteParamsNames.{StmtExecuteParamsNames}

abbrev pub BinlogDumpFlags : Type 0
BinlogDumpFlags = FlagWord BinlogDumpNames ℕ

abbrev pub BINLOG_DUMP_NON_BLOCK : ℕ
BINLOG_DUMP_NON_BLOCK = 1

abbrev pub BINLOG_THROUGH_POSITION : ℕ
BINLOG_THROUGH_POSITION = 2

abbrev pub BINLOG_THROUGH_GTID : ℕ
BINLOG_THROUGH_GTID = 4

abbrev pub CapabilityFlags : Type 0
CapabilityFlags = FlagWord CapabilityNames ℕ

abbrev pub CLIENT_LONG_PASSWORD : ℕ
CLIENT_LONG_PASSWORD = 0x0000_0001

abbrev pub CLIENT_FOUND_ROWS : ℕ
CLIENT_FOUND_ROWS = 0x0000_0002

abbrev pub CLIENT_LONG_FLAG : ℕ
CLIENT_LONG_FLAG = 0x0000_0004

abbrev pub CLIENT_CONNECT_WITH_DB : ℕ
CLIENT_CONNECT_WITH_DB = 0x0000_0008

abbrev pub CLIENT_NO_SCHEMA : ℕ
CLIENT_NO_SCHEMA = 0x0000_0010

abbrev pub CLIENT_COMPRESS : ℕ
CLIENT_COMPRESS = 0x0000_0020

abbrev pub CLIENT_ODBC : ℕ
CLIENT_ODBC = 0x0000_0040

abbrev pub CLIENT_LOCAL_FILES : ℕ
CLIENT_LOCAL_FILES = 0x0000_0080

abbrev pub CLIENT_IGNORE_SPACE : ℕ
CLIENT_IGNORE_SPACE = 0x0000_0100

abbrev pub CLIENT_PROTOCOL_41 : ℕ
CLIENT_PROTOCOL_41 = 0x0000_0200

abbrev pub CLIENT_INTERACTIVE : ℕ
CLIENT_INTERACTIVE = 0x0000_0400

abbrev pub CLIENT_SSL : ℕ
CLIENT_SSL = 0x0000_0800

abbrev pub CLIENT_IGNORE_SIGPIPE : ℕ
CLIENT_IGNORE_SIGPIPE = 0x0000_1000

abbrev pub CLIENT_TRANSACTIONS : ℕ
CLIENT_TRANSACTIONS = 0x0000_2000

abbrev pub CLIENT_RESERVED : ℕ
CLIENT_RESERVED = 0x0000_4000

abbrev pub CLIENT_SECURE_CONNECTION : ℕ
CLIENT_SECURE_CONNECTION = 0x0000_8000

abbrev pub CLIENT_MULTI_STATEMENTS : ℕ
CLIENT_MULTI_STATEMENTS = 0x0001_0000

abbrev pub CLIENT_MULTI_RESULTS : ℕ
CLIENT_MULTI_RESULTS = 0x0002_0000

abbrev pub CLIENT_PS_MULTI_RESULTS : ℕ
CLIENT_PS_MULTI_RESULTS = 0x0004_0000

abbrev pub CLIENT_PLUGIN_AUTH : ℕ
CLIENT_PLUGIN_AUTH = 0x0008_0000

abbrev pub CLIENT_CONNECT_ATTRS : ℕ
CLIENT_CONNECT_ATTRS = 0x0010_0000

abbrev pub CLIENT_PLUGIN_AUTH_LENENC_CLIENT_DATA : ℕ
CLIENT_PLUGIN_AUTH_LENENC_CLIENT_DATA = 0x0020_0000

abbrev pub CLIENT_CAN_HANDLE_EXPIRED_PASSWORDS : ℕ
CLIENT_CAN_HANDLE_EXPIRED_PASSWORDS = 0x0040_0000

abbrev pub CLIENT_SESSION_TRACK : ℕ
CLIENT_SESSION_TRACK = 0x0080_0000

abbrev pub CLIENT_DEPRECATE_EOF : ℕ
CLIENT_DEPRECATE_EOF = 0x0100_0000

abbrev pub CLIENT_OPTIONAL_RESULTSET_METADATA : ℕ
CLIENT_OPTIONAL_RESULTSET_METADATA = 0x0200_0000

abbrev pub CLIENT_ZSTD_COMPRESSION_ALGORITHM : ℕ
CLIENT_ZSTD_COMPRESSION_ALGORITHM = 0x0400_0000

abbrev pub CLIENT_QUERY_ATTRIBUTES : ℕ
CLIENT_QUERY_ATTRIBUTES = 0x0800_0000

abbrev pub MULTI_FACTOR_AUTHENTICATION : ℕ
MULTI_FACTOR_AUTHENTICATION = 0x1000_0000

abbrev pub CLIENT_PROGRESS_OBSOLETE : ℕ
CLIENT_PROGRESS_OBSOLETE = 0x2000_0000

abbrev pub CLIENT_SSL_VERIFY_SERVER_CERT : ℕ
CLIENT_SSL_VERIFY_SERVER_CERT = 0x4000_0000

abbrev pub CLIENT_REMEMBER_OPTIONS : ℕ
CLIENT_REMEMBER_OPTIONS = 0x8000_0000

abbrev pub ColumnFlags : Type 0
ColumnFlags = FlagWord ColumnFlagNames ℕ

abbrev pub NOT_NULL_FLAG : ℕ
NOT_NULL_FLAG = 0x0001

abbrev pub PRI_KEY_FLAG : ℕ
PRI_KEY_FLAG = 0x0002

abbrev pub UNIQUE_KEY_FLAG : ℕ
UNIQUE_KEY_FLAG = 0x0004

abbrev pub MULTIPLE_KEY_FLAG : ℕ
MULTIPLE_KEY_FLAG = 0x0008

abbrev pub BLOB_FLAG : ℕ
BLOB_FLAG = 0x0010

abbrev pub UNSIGNED_FLAG : ℕ
UNSIGNED_FLAG = 0x0020

abbrev pub ZEROFILL_FLAG : ℕ
ZEROFILL_FLAG = 0x0040

abbrev pub BINARY_FLAG : ℕ
BINARY_FLAG = 0x0080

abbrev pub ENUM_FLAG : ℕ
ENUM_FLAG = 0x0100

abbrev pub AUTO_INCREMENT_FLAG : ℕ
AUTO_INCREMENT_FLAG = 0x0200

abbrev pub TIMESTAMP_FLAG : ℕ
TIMESTAMP_FLAG = 0x0400

abbrev pub SET_FLAG : ℕ
SET_FLAG = 0x0800

abbrev pub NO_DEFAULT_VALUE_FLAG : ℕ
NO_DEFAULT_VALUE_FLAG = 0x1000

abbrev pub ON_UPDATE_NOW_FLAG : ℕ
ON_UPDATE_NOW_FLAG = 0x2000

abbrev pub PART_KEY_FLAG : ℕ
PART_KEY_FLAG = 0x4000

abbrev pub NUM_FLAG : ℕ
NUM_FLAG = 0x8000

abbrev pub CursorType : Type 0
CursorType = FlagWord CursorNames ℕ

abbrev pub CURSOR_TYPE_NO_CURSOR : ℕ
CURSOR_TYPE_NO_CURSOR = 0

abbrev pub CURSOR_TYPE_READ_ONLY : ℕ
CURSOR_TYPE_READ_ONLY = 1

abbrev pub CURSOR_TYPE_FOR_UPDATE : ℕ
CURSOR_TYPE_FOR_UPDATE = 2

abbrev pub CURSOR_TYPE_SCROLLABLE : ℕ
CURSOR_TYPE_SCROLLABLE = 4

abbrev pub PARAMETER_COUNT_AVAILABLE : ℕ
PARAMETER_COUNT_AVAILABLE = 8

abbrev pub MariadbCapabilities : Type 0
MariadbCapabilities = FlagWord MariadbCapabilityNames ℕ

abbrev pub MARIADB_CLIENT_PROGRESS : ℕ
MARIADB_CLIENT_PROGRESS = 0x01

abbrev pub MARIADB_CLIENT_COM_MULTI : ℕ
MARIADB_CLIENT_COM_MULTI = 0x02

abbrev pub MARIADB_CLIENT_STMT_BULK_OPERATIONS : ℕ
MARIADB_CLIENT_STMT_BULK_OPERATIONS = 0x04

abbrev pub MARIADB_CLIENT_EXTENDED_METADATA : ℕ
MARIADB_CLIENT_EXTENDED_METADATA = 0x08

abbrev pub MARIADB_CLIENT_CACHE_METADATA : ℕ
MARIADB_CLIENT_CACHE_METADATA = 0x10

abbrev pub MARIADB_CLIENT_BULK_UNIT_RESULTS : ℕ
MARIADB_CLIENT_BULK_UNIT_RESULTS = 0x20

abbrev pub StatusFlags : Type 0
StatusFlags = FlagWord StatusNames ℕ

abbrev pub SERVER_STATUS_IN_TRANS : ℕ
SERVER_STATUS_IN_TRANS = 0x0001

abbrev pub SERVER_STATUS_AUTOCOMMIT : ℕ
SERVER_STATUS_AUTOCOMMIT = 0x0002

abbrev pub SERVER_MORE_RESULTS_EXISTS : ℕ
SERVER_MORE_RESULTS_EXISTS = 0x0008

abbrev pub SERVER_STATUS_NO_GOOD_INDEX_USED : ℕ
SERVER_STATUS_NO_GOOD_INDEX_USED = 0x0010

abbrev pub SERVER_STATUS_NO_INDEX_USED : ℕ
SERVER_STATUS_NO_INDEX_USED = 0x0020

abbrev pub SERVER_STATUS_CURSOR_EXISTS : ℕ
SERVER_STATUS_CURSOR_EXISTS = 0x0040

abbrev pub SERVER_STATUS_LAST_ROW_SENT : ℕ
SERVER_STATUS_LAST_ROW_SENT = 0x0080

abbrev pub SERVER_STATUS_DB_DROPPED : ℕ
SERVER_STATUS_DB_DROPPED = 0x0100

abbrev pub SERVER_STATUS_NO_BACKSLASH_ESCAPES : ℕ
SERVER_STATUS_NO_BACKSLASH_ESCAPES = 0x0200

abbrev pub SERVER_STATUS_METADATA_CHANGED : ℕ
SERVER_STATUS_METADATA_CHANGED = 0x0400

abbrev pub SERVER_QUERY_WAS_SLOW : ℕ
SERVER_QUERY_WAS_SLOW = 0x0800

abbrev pub SERVER_PS_OUT_PARAMS : ℕ
SERVER_PS_OUT_PARAMS = 0x1000

abbrev pub SERVER_STATUS_IN_TRANS_READONLY : ℕ
SERVER_STATUS_IN_TRANS_READONLY = 0x2000

abbrev pub SERVER_SESSION_STATE_CHANGED : ℕ
SERVER_SESSION_STATE_CHANGED = 0x4000

abbrev pub SERVER_STATUS_ANSI_QUOTES : ℕ
SERVER_STATUS_ANSI_QUOTES = 0x8000

abbrev pub StmtBulkExecuteFlags : Type 0
StmtBulkExecuteFlags = FlagWord StmtBulkExecuteNames ℕ

abbrev pub SEND_UNIT_RESULTS : ℕ
SEND_UNIT_RESULTS = 64

abbrev pub SEND_TYPES_TO_SERVER : ℕ
SEND_TYPES_TO_SERVER = 128

abbrev pub StmtExecuteParamFlags : Type 0
StmtExecuteParamFlags = FlagWord StmtExecuteParamNames ℕ

abbrev pub UNSIGNED : ℕ
UNSIGNED = 128

abbrev pub StmtExecuteParamsFlags : Type 0
StmtExecuteParamsFlags = FlagWord StmtExecuteParamsNames ℕ

abbrev pub NEW_PARAMS_BOUND : ℕ
NEW_PARAMS_BOUND = 1
