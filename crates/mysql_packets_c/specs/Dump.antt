-- The request for a binary log from a position, in C.
use Rattle.std.specs.Prelude.{◌≡◌, ℕ, List}
use Rattle.mysql_repl.specs.BinlogDump as dump
use Rattle.mysql_repl.specs.declared.binlog_dump.ComBinlogDump.{ComBinlogDump}
use Rattle.mysql_packets_c.specs.declared.dump.CDump.{CDump}

-- the request with these fields
abbrev pub request_of : CDump → ComBinlogDump
request_of c = dump.dump_of c.server_id c.position c.flags c.file_name.now

pub record IsDump (p : ComBinlogDump) (rest : List ℕ) (out : CDump) : Type 0 where
  pub file_name : out.file_name.now ≡ dump.filename p
  pub server_id : out.server_id ≡ dump.server_id p
  pub position : out.position ≡ dump.pos p
  pub flags : out.flags ≡ (dump.flags_of p).0
