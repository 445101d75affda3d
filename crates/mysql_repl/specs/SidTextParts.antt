-- The rest of a text of intervals, as a reader advances.
use Rattle.std.specs.Prelude.{ℕ, ◌+◌, List, [], length, Option, Some, None, Result, Ok, Err}
use Rattle.std.specs.Global.{Vec}
use Rattle.mysql_repl.specs.declared.gno_interval.GnoInterval.{GnoInterval}
use Rattle.mysql_repl.specs.declared.sid_text.InvalidSid.{InvalidSid}
use Rattle.mysql_repl.specs.SidText.{parts_of}

abbrev pub left_parts : Option (List ℕ) → List (List ℕ)
left_parts None = []
left_parts (Some text) = parts_of text

abbrev pub left_len : Option (List ℕ) → ℕ
left_len None = 0
left_len (Some text) = length text + 1

abbrev pub items_read : Result (Vec GnoInterval) InvalidSid → Result (List GnoInterval) InvalidSid
items_read (Ok v) = Ok v.items
items_read (Err e) = Err e
