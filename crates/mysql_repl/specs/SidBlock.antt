-- The sids of a dump: a head, and a given number of sids in one of two layouts.
use Rattle.std.specs.Prelude.{ℕ, ◌+◌, ◌*◌, ◌/◌, ◌%◌, ◌<◌, ◌^◌, List, [], ◌++◌, length, min, Option, Some, None, is_some, Bool, true, false, ◌&&◌, ◌==◌, nat_lt, if◌then◌else◌}
use Rattle.std.specs.List.{flat_map, list_any}
use Rattle.mysql_wire.specs.Form.{Form, ◌>>=◌, decode, within, beginning}
use Rattle.mysql_wire.specs.CodecFits.{each_fits}
use Rattle.mysql_wire.specs.CountedBytes.{u32_string}
use Rattle.mysql_wire.specs.Int.{le_u64, number_of}
use Rattle.mysql_wire.specs.Seq.{counted}
use Rattle.mysql_wire.specs.Writing.{le_bytes}
use Rattle.mysql_repl.specs.declared.sid.Sid.{Sid}
use Rattle.mysql_repl.specs.Sid.{sid_as}

-- ---- the head: the layout in its top byte, the count below it

abbrev pub layout : ℕ → ℕ
layout head = head / 2 ^ 56

-- 1 is the layout with tags; any other byte is the one without
abbrev pub is_tagged : ℕ → Bool
is_tagged head = layout head == 1

-- with tags, the lowest byte is not part of the count
abbrev pub count_of : ℕ → ℕ
count_of head = if is_tagged head then head / 2 ^ 8 % 2 ^ 48 else head % 2 ^ 56

-- a strict reader accepts only the two layouts
abbrev pub head_of : (strict : Bool) → ℕ → Option ℕ
head_of strict head = if strict && nat_lt 1 (layout head) then None else Some head

-- ---- reading

-- the head, and that many sids
unfoldable pub sids_form : (strict : Bool) → Form (List Sid)
sids_form strict = do
  head ← decode (head_of strict) (number_of le_u64)
  counted (count_of head) ((sid_as (is_tagged head)).form tt)

-- A block after its length. Bytes after the last sid are ignored, except by a strict reader.
unfoldable pub block_form : (strict : Bool) → Form (List Sid)
block_form true = within u32_string (sids_form true)
block_form false = beginning u32_string (sids_form false)

-- ---- writing

abbrev pub has_tag : Sid → Bool
has_tag s = is_some s.tag

-- with tags exactly if some sid has one
unfoldable pub any_tag : List Sid → Bool
any_tag sids = list_any has_tag sids

unfoldable pub head_for : (tagged : Bool) (count : ℕ) → ℕ
head_for tagged count = if tagged then 2 ^ 56 + 2 ^ 8 * (count % 2 ^ 48) else count % 2 ^ 56

-- the head, and the sids
unfoldable pub content : List Sid → List ℕ
content sids = le_bytes 8 (head_for (any_tag sids) (length sids)) ++ flat_map (sid_as (any_tag sids)).bytes sids

-- the block after its length or 2^32 - 1, whichever is less
unfoldable pub block_bytes : List Sid → List ℕ
block_bytes sids = le_bytes 4 (min (length (content sids)) 4294967295) ++ content sids

-- a block is read back if it has less than 2^32 bytes, and each sid is read back
abbrev pub BlockFits : List Sid → Type 0
BlockFits sids = (length (content sids) < 2 ^ 32) × each_fits (sid_as (any_tag sids)) tt sids []
