-- The request for the rows of a table, in C.
use Rattle.std.specs.Prelude.{◌≡◌, ℕ, List}
use Rattle.mysql_repl.specs.TableDump as dump
use Rattle.mysql_repl.specs.declared.table_dump.ComTableDump.{ComTableDump}
use Rattle.mysql_packets_c.specs.Input.{used_of}
use Rattle.mysql_packets_c.specs.declared.table_dump.CTableDump.{CTableDump}

-- the request with these fields
abbrev pub request_of : CTableDump → ComTableDump
request_of c = dump.dump_of c.database.now c.table.now

pub record IsTableDump (packet : List ℕ) (p : ComTableDump) (rest : List ℕ) (out : CTableDump) : Type 0 where
  pub database : out.database.now ≡ dump.database p
  pub table : out.table.now ≡ dump.table p
  pub used : out.used ≡ used_of packet rest
