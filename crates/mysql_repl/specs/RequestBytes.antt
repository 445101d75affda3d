-- The bytes of a binary log request in either command.
use Rattle.std.specs.Prelude.{ℕ, ◌%◌, ◌^◌, List, ◌∷◌, ◌++◌, Bool, true, false, bit_and}
use Rattle.mysql_wire.specs.CommandCodes.{COM_BINLOG_DUMP, COM_BINLOG_DUMP_GTID}
use Rattle.mysql_wire.specs.CountedBytes.{u32_string_bytes}
use Rattle.mysql_wire.specs.FlagMasks.{BINLOG_DUMP_NON_BLOCK}
use Rattle.mysql_wire.specs.Writing.{le_bytes}
use Rattle.mysql_repl.specs.declared.binlog_request.BinlogRequest.{BinlogRequest}
use Rattle.mysql_repl.specs.BinlogRequest.{server_id, use_gtid, flags, filename, pos, sids}
use Rattle.mysql_repl.specs.BinlogDumpGtid.{through_gtid}
use Rattle.mysql_repl.specs.SidBlock.{block_bytes}

-- by position: 12; the position's low 32 bits; BINLOG_DUMP_NON_BLOCK if it is set; the replica's server id; the file name
abbrev pub position_bytes : BinlogRequest → List ℕ
position_bytes r = COM_BINLOG_DUMP ∷ (le_bytes 4 (pos r % 2 ^ 32) ++ (le_bytes 2 (bit_and (flags r).0 BINLOG_DUMP_NON_BLOCK) ++ (le_bytes 4 (server_id r) ++ filename r)))

-- by GTID set: 1e; the flags, with BINLOG_THROUGH_GTID exactly if there is a sid; the replica's server id; the file name after its length;
-- the position; the block of sids
abbrev pub gtid_bytes : BinlogRequest → List ℕ
gtid_bytes r =
    COM_BINLOG_DUMP_GTID ∷ (le_bytes 2 (through_gtid (sids r) (flags r).0) ++ (le_bytes 4 (server_id r) ++ (u32_string_bytes (filename r) ++ (le_bytes 8 (pos r) ++ block_bytes (sids r)))))

abbrev pub request_bytes_by : Bool → BinlogRequest → List ℕ
request_bytes_by true r = gtid_bytes r
request_bytes_by false r = position_bytes r

abbrev pub request_bytes : BinlogRequest → List ℕ
request_bytes r = request_bytes_by (use_gtid r) r
