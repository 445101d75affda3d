-- A sid's text, in its parts.
use Rattle.std.specs.Prelude.{◌≡◌, Option, Some, None, Result, Ok, Err, length}
use Rattle.mysql_repl.specs.Sid as lib
use Rattle.mysql_repl.specs.SidText.{all_read}
use Rattle.mysql_repl.specs.declared.sid.Sid.{Sid}
use Rattle.mysql_repl.specs.declared.sid_text.InvalidSid.{InvalidSid}
use Rattle.mysql_packets_c.specs.declared.sid_text.SidText.{SidText}

-- the uuid, the tag, the intervals and their number
pub record Tells (found : SidText) (s : Sid) : Type 0 where
  pub uuid : found.parts.uuid ≡ lib.uuid s
  pub tag : found.parts.tag ≡ lib.tag s
  pub intervals : all_read found.parts.intervals ≡ Ok (lib.intervals s)
  pub count : found.count ≡ length (lib.intervals s)

-- the parts of the sid that is read; none for an invalid text
abbrev pub Found : Option SidText → Result Sid InvalidSid → Type 0
Found (Some found) (Ok s) = Tells found s
Found None (Err e) = Unit {0}
Found (Some found) (Err e) = ⊥
Found None (Ok s) = ⊥
