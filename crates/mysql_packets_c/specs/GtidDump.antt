-- The request for a binary log without the transactions of a GTID set, in C.
use Rattle.std.specs.Prelude.{◌≡◌, ◌<◌, ℕ, List, [], Option, Some, None}
use Rattle.mysql_repl.specs.BinlogDumpGtid as dump
use Rattle.mysql_repl.specs.BinlogDumpGtid.{gtid_dump}
use Rattle.mysql_repl.specs.InPlace.{StandIn}
use Rattle.mysql_repl.specs.Sid as lib
use Rattle.mysql_repl.specs.declared.binlog_dump_gtid.ComBinlogDumpGtid.{ComBinlogDumpGtid}
use Rattle.mysql_repl.specs.declared.sid.Sid.{Sid}
use Rattle.mysql_packets_c.specs.Given.{is_set}
use Rattle.mysql_packets_c.specs.Input.{used_of}
use Rattle.mysql_packets_c.specs.Output.{PutsUnlessTooLong}
use Rattle.mysql_packets_c.specs.declared.gtid_dump.CGtidDump.{CGtidDump}

-- the request with these fields and sids; BINLOG_THROUGH_GTID is set exactly if there is a sid
abbrev pub dump_with : CGtidDump → List Sid → ComBinlogDumpGtid
dump_with c sids =
    dump.with_sids sids (dump.with_pos c.position (dump.with_filename c.file_name.now (dump.with_flags c.flags (dump.dump_of c.server_id 0 0 [] []))))

-- the request's bytes are written; with an invalid tag nothing is, and the code is 3
abbrev pub PutsDump : Option (List Sid) → (List Sid → ComBinlogDumpGtid) → (code : ℕ) (old new : List ℕ) (written : ℕ) → Type 0
PutsDump (Some sids) dump_of code old new written = PutsUnlessTooLong (gtid_dump.bytes (dump_of sids)) code old new written
PutsDump None dump_of code old new written = (code ≡ 3) × (new ≡ old) × (written ≡ 0)

-- the sids are at their place: they are read with what follows, which is left
abbrev pub SidsStand : List Sid → CGtidDump → Type 0
SidsStand list out = StandIn ((lib.sid_as (is_set out.is_tagged)).form tt) out.n_sids out.sids.now list

-- the other fields of the struct are unchanged
pub record KeepsOthers (old new : CGtidDump) : Type 0 where
  pub file_name : new.file_name.now ≡ old.file_name.now
  pub position : new.position ≡ old.position
  pub used : new.used ≡ old.used
  pub server_id : new.server_id ≡ old.server_id
  pub flags : new.flags ≡ old.flags

pub record IsGtidDump (packet : List ℕ) (p : ComBinlogDumpGtid) (rest : List ℕ) (out : CGtidDump) : Type 0 where
  pub file_name : out.file_name.now ≡ dump.filename p
  pub position : out.position ≡ dump.pos p
  pub server_id : out.server_id ≡ dump.server_id p
  pub flags : out.flags ≡ dump.flag_bits p
  pub sids : SidsStand (dump.sids p) out
  pub flag : out.is_tagged < 2
  pub used : out.used ≡ used_of packet rest
