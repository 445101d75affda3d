-- The most values that a list in the bytes can have: no more than its count, and no more than the bytes after the count can hold. If it can
-- have any, reading allocates.
use Rattle.std.specs.Prelude.{ℕ, ◌/◌, length, min, Bool, true, false}
use Rattle.mysql_wire.specs.Form.{Form, ◌>>=◌, bytes, give, decode, beginning, looking}
use Rattle.mysql_wire.specs.CountedBytes.{u32_string}
use Rattle.mysql_wire.specs.Int.{le_u64, number_of}
use Rattle.mysql_repl.specs.BinlogDumpGtid.{gtid_dump_head}
use Rattle.mysql_repl.specs.SidBlock.{head_of, count_of, is_tagged}
use Rattle.mysql_repl.specs.TagString.{tag_form}

-- a number of values, with a given minimum of bytes each
abbrev pub space_for : (count least : ℕ) → Form ℕ
space_for count least = looking (λ bytes. give (min count (length bytes / least)))

-- intervals after their count, sixteen bytes each
abbrev pub interval_space : Form ℕ
interval_space = do
  count ← number_of le_u64
  space_for count 16

-- a sid's intervals: after sixteen bytes, and after the tag in the layout with tags
abbrev pub space_in_sid : (tagged : Bool) → Form ℕ
space_in_sid false = do
  id ← bytes 16
  interval_space
space_in_sid true = do
  id ← bytes 16
  name ← tag_form
  interval_space

-- the least bytes of a sid: its identifier, the length of its tag in the layout with tags, and its count
abbrev pub least_len : (tagged : Bool) → ℕ
least_len true = 25
least_len false = 24

-- a block's sids after its head
abbrev pub space_in_sids : (strict : Bool) → Form ℕ
space_in_sids strict = do
  head ← decode (head_of strict) (number_of le_u64)
  space_for (count_of head) (least_len (is_tagged head))

-- a block's sids after its length
abbrev pub space_in_block : (strict : Bool) → Form ℕ
space_in_block strict = beginning u32_string (space_in_sids strict)

-- a dump's sids: after seven bytes, the file name and the position
abbrev pub space_in_dump : (strict : Bool) → Form ℕ
space_in_dump strict = do
  head ← gtid_dump_head.form strict
  name ← u32_string
  position ← le_u64
  space_in_block strict
