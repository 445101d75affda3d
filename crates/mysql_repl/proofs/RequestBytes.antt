-- The bytes of the command that a request makes.
use Rattle.std.proofs.Common.{◌≡◌, Bool, true, false, refl, append_assoc}
use Rattle.std.proofs.lemmas.List.{append-nil}
use Rattle.mysql_wire.specs.Either.{either_bytes}
use Rattle.mysql_repl.specs.declared.binlog_request.BinlogRequest.{BinlogRequest}
use Rattle.mysql_repl.specs.BinlogDump.{binlog_dump}
use Rattle.mysql_repl.specs.BinlogDumpGtid as by_gtid
use Rattle.mysql_repl.specs.BinlogRequest.{position_dump, gtid_dump, command_by, command}
use Rattle.mysql_repl.specs.RequestBytes.{position_bytes, gtid_bytes, request_bytes_by, request_bytes}

position-written : (r : BinlogRequest) → binlog_dump.bytes (position_dump r) ≡ position_bytes r
unfolding binlog_dump
position-written r = simp (append_assoc, append-nil) refl

gtid-written : (r : BinlogRequest) → by_gtid.gtid_dump.bytes (gtid_dump r) ≡ gtid_bytes r
unfolding by_gtid.gtid_dump by_gtid.gtid_dump_head
gtid-written r = simp (append_assoc, append-nil) refl

written-by : (gtid : Bool) (r : BinlogRequest) → either_bytes binlog_dump.bytes by_gtid.gtid_dump.bytes (command_by gtid r) ≡ request_bytes_by gtid r
written-by true r = gtid-written r
written-by false r = position-written r

pub command-written : (r : BinlogRequest) → either_bytes binlog_dump.bytes by_gtid.gtid_dump.bytes (command r) ≡ request_bytes r
command-written r = written-by r.use_gtid r

pub ruleset commands_written = (command-written)
