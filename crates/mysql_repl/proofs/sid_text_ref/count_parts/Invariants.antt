use Rattle.std.proofs.Common.{◌≡◌, take}
use Rattle.std.specs.List.{count_by}
use Rattle.mysql_repl.specs.SidText.{colon, is}
use Rattle.mysql_repl.proofs.sid_text_ref.count_parts.Given as goal

abbrev pub invariant-loop-byte : goal.invariant-loop-byte
invariant-loop-byte l = l.colons ≡ count_by (is colon) (take l.byte-index l.byte-items)
