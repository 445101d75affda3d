-- The commands `gtid` and `gtidstrict`.
use Rattle.std.specs.Prelude.{ℕ, List, ◌∷◌, [], ◌++◌, Bool, codes}
use Rattle.std.specs.List.{flat_map}
use Rattle.mysql_repl.specs.declared.binlog_dump_gtid.ComBinlogDumpGtid.{ComBinlogDumpGtid}
use Rattle.mysql_repl.specs.declared.sid.Sid.{Sid}
use Rattle.mysql_repl.specs.BinlogDumpGtid.{gtid_dump, server_id, flag_bits, filename, pos, sids}
use Rattle.mysql_repl.specs.SidText.{sid_text}
use Rattle.mysql_show.specs.Fields.{said, Word}
use Rattle.mysql_show.specs.FieldText.{lines_of}
use Rattle.mysql_show.specs.Replicas.{dump_fields}
use Rattle.mysql_program.specs.Lines.{end_lines}
use Rattle.mysql_program.specs.Answer.{Answer, of_reading}

abbrev pub sid_line : Sid → List ℕ
sid_line s = lines_of (said (codes "sid") (Word (sid_text s)) ∷ [])

-- the lines of the dump, a line for each sid, and the last lines
abbrev pub gtid_lines : ComBinlogDumpGtid → ℕ → List ℕ
gtid_lines p rest =
    (lines_of (dump_fields (server_id p) (flag_bits p) (filename p) (pos p)) ++ flat_map sid_line (sids p)) ++ end_lines rest (gtid_dump.bytes p)

-- by the strict reader, or the other one
abbrev pub gtid_answer : Bool → List ℕ → Answer
gtid_answer strict bytes = of_reading gtid_lines ((gtid_dump.form strict).reads bytes)
