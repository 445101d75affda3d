-- The text of a GTID set, in C.
use Rattle.std.specs.Prelude.{◌≡◌, ℕ, List, Result, Ok, Err}
use Rattle.mysql_repl.specs.BinlogDumpGtid.{gtid_dump, sids}
use Rattle.mysql_repl.specs.GtidSetWritten.{set_text}
use Rattle.mysql_repl.specs.declared.binlog_dump_gtid.ComBinlogDumpGtid.{ComBinlogDumpGtid}
use Rattle.mysql_repl.specs.declared.sid.Sid.{Sid}
use Rattle.mysql_repl.specs.declared.sid_text.InvalidSid.{InvalidSid}
use Rattle.mysql_wire.specs.Reading.{Reading}
use Rattle.mysql_packets_c.specs.Code.{kind_code}
use Rattle.mysql_packets_c.specs.Output.{PutsUnlessTooLong}

-- nothing is written, and the code says why
pub record Refuses (number answer : ℕ) (old new : List ℕ) (written : ℕ) : Type 0 where
  pub code : answer ≡ number
  pub buffer : new ≡ old
  pub none : written ≡ 0

-- the request with the sids of a text; 2 for an invalid text
abbrev pub PutsSpelled : Result (List Sid) InvalidSid → (List Sid → ComBinlogDumpGtid) → (code : ℕ) (old new : List ℕ) (written : ℕ) → Type 0
PutsSpelled (Ok list) dump_of code old new written = PutsUnlessTooLong (gtid_dump.bytes (dump_of list)) code old new written
PutsSpelled (Err e) dump_of code old new written = Refuses 2 code old new written

-- the text of the sids of a request that was read; or the code of its first fault
abbrev pub PutsShown : Reading ComBinlogDumpGtid → (code : ℕ) (old new : List ℕ) (written : ℕ) → Type 0
PutsShown (Ok x) code old new written = PutsUnlessTooLong (set_text (sids x.0)) code old new written
PutsShown (Err k) code old new written = Refuses (kind_code k) code old new written
