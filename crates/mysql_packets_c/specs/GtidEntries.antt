-- The sids of a dump, from the text of a GTID set, one after another.
use Rattle.std.specs.Prelude.{ℕ, ◌+◌, List, [], ◌∷◌, ◌++◌, length, min, Option, is_some, Ok, Err, Bool, true, false}
use Rattle.std.specs.List.{flat_map}
use Rattle.mysql_wire.specs.CountedBytes.{u32_string_bytes}
use Rattle.mysql_wire.specs.FlagMasks.{BINLOG_THROUGH_GTID}
use Rattle.mysql_wire.specs.Flags.{switched}
use Rattle.mysql_wire.specs.Varlen.{varlen_string_bytes}
use Rattle.mysql_wire.specs.Writing.{le_bytes}
use Rattle.mysql_repl.specs.BinlogDumpGtid.{through_gtid}
use Rattle.mysql_repl.specs.GnoInterval as gno
use Rattle.mysql_repl.specs.GtidSetEntries.{Entry, lower_tag}
use Rattle.mysql_repl.specs.SidBlock.{head_for}
use Rattle.mysql_repl.specs.TagString.{tag_bytes}
use Rattle.mysql_repl.specs.declared.gtid_set_entries.GtidSetEntry.TheVariants as entry
use Rattle.mysql_packets_c.specs.declared.gtid_dump.CGtidDump.{CGtidDump}

abbrev pub head_bytes : (tagged : Bool) (id : List ℕ) (tag : Option (List ℕ)) (count : ℕ) → List ℕ
head_bytes true id tag count = id ++ (varlen_string_bytes (tag_bytes tag) ++ le_bytes 8 count)
head_bytes false id tag count = id ++ le_bytes 8 count

abbrev pub entry_bytes : (tagged : Bool) → Entry → List ℕ
entry_bytes tagged (Err e) = []
entry_bytes tagged (Ok (entry.Sid s)) = head_bytes tagged s.uuid (lower_tag s.tag) s.intervals
entry_bytes tagged (Ok (entry.Interval i)) = gno.interval.bytes i

abbrev pub entries_content : (tagged : Bool) (count : ℕ) → List Entry → List ℕ
entries_content tagged count list = le_bytes 8 (head_for tagged count) ++ flat_map (entry_bytes tagged) list

abbrev pub entries_block : (tagged : Bool) (count : ℕ) → List Entry → List ℕ
entries_block tagged count list = le_bytes 4 (min (length (entries_content tagged count list)) 4294967295) ++ entries_content tagged count list

-- the flags with BINLOG_THROUGH_GTID exactly if there is a sid
abbrev pub entries_dump : CGtidDump → (some tagged : Bool) (count : ℕ) → List Entry → List ℕ
entries_dump c some tagged count list =
    30 ∷ (le_bytes 2 (switched 16 some BINLOG_THROUGH_GTID (through_gtid [] c.flags)) ++ (le_bytes 4 c.server_id
    ++ (u32_string_bytes c.file_name.now ++ (le_bytes 8 c.position ++ entries_block tagged count list))))

-- ---- writing

abbrev pub is_refused : Entry → Bool
is_refused (Err e) = true
is_refused (Ok x) = false

abbrev pub has_tag : Entry → Bool
has_tag (Err e) = false
has_tag (Ok (entry.Sid s)) = is_some s.tag
has_tag (Ok (entry.Interval i)) = false

abbrev pub one_if_head : Entry → ℕ
one_if_head (Err e) = 0
one_if_head (Ok (entry.Sid s)) = 1
one_if_head (Ok (entry.Interval i)) = 0

-- the number of sids
abbrev pub heads : List Entry → ℕ
heads [] = 0
heads (e ∷ list) = one_if_head e + heads list
