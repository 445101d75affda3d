-- A request for a binary log, by either command.
use Rattle.std.specs.Prelude.{ℕ, ◌%◌, ◌^◌, List, Bool, true, false, bit_and}
use Rattle.mysql_wire.specs.declared.either.Either.{Either}
use Rattle.mysql_wire.specs.declared.either.Either.TheVariants.{Left, Right}
use Rattle.mysql_wire.specs.FlagMasks.{BINLOG_DUMP_NON_BLOCK}
use Rattle.mysql_wire.specs.Flags.{BinlogDumpFlags}
use Rattle.mysql_repl.specs.declared.binlog_dump.ComBinlogDump.{ComBinlogDump}
use Rattle.mysql_repl.specs.declared.binlog_dump_gtid.ComBinlogDumpGtid.{ComBinlogDumpGtid}
use Rattle.mysql_repl.specs.declared.binlog_request.BinlogRequest.{BinlogRequest}
use Rattle.mysql_repl.specs.declared.sid.Sid.{Sid}
use Rattle.mysql_repl.specs.BinlogDump as by_position
use Rattle.mysql_repl.specs.BinlogDumpGtid as by_gtid

abbrev pub server_id : BinlogRequest → ℕ
server_id r = r.server_id

abbrev pub use_gtid : BinlogRequest → Bool
use_gtid r = r.use_gtid

abbrev pub flags : BinlogRequest → BinlogDumpFlags
flags r = r.flags

abbrev pub filename : BinlogRequest → List ℕ
filename r = r.filename

abbrev pub pos : BinlogRequest → ℕ
pos r = r.pos

abbrev pub sids : BinlogRequest → List Sid
sids r = r.sids

-- by position: the low 32 bits of the position, and only BINLOG_DUMP_NON_BLOCK of the flags
abbrev pub position_dump : BinlogRequest → ComBinlogDump
position_dump r = by_position.dump_of r.server_id (r.pos % 2 ^ 32) (bit_and r.flags.0 BINLOG_DUMP_NON_BLOCK) (filename r)

-- by GTID set: all fields, with BINLOG_THROUGH_GTID exactly if there is a sid
abbrev pub gtid_dump : BinlogRequest → ComBinlogDumpGtid
gtid_dump r = by_gtid.dump_of r.server_id r.pos (by_gtid.through_gtid (sids r) r.flags.0) (filename r) (sids r)

abbrev pub command_by : Bool → BinlogRequest → Either ComBinlogDump ComBinlogDumpGtid
command_by true r = Right (gtid_dump r)
command_by false r = Left (position_dump r)

abbrev pub command : BinlogRequest → Either ComBinlogDump ComBinlogDumpGtid
command r = command_by r.use_gtid r

abbrev pub with_server_id : ℕ → BinlogRequest → BinlogRequest
with_server_id number r = record r { server_id = number }

abbrev pub with_use_gtid : Bool → BinlogRequest → BinlogRequest
with_use_gtid on r = record r { use_gtid = on }

abbrev pub with_flags : BinlogDumpFlags → BinlogRequest → BinlogRequest
with_flags word r = record r { flags = word }

abbrev pub with_filename : List ℕ → BinlogRequest → BinlogRequest
with_filename name r = record r { filename = name }

abbrev pub with_pos : ℕ → BinlogRequest → BinlogRequest
with_pos position r = record r { pos = position }

abbrev pub with_sids : List Sid → BinlogRequest → BinlogRequest
with_sids list r = record r { sids = list }
