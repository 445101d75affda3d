-- The text of a set of sids.
use Rattle.std.specs.Prelude.{ℕ, ◌<◌, ◌^◌, List, [], ◌∷◌, ◌++◌, nat_eq, Option, Some, None, is_some, Bool, ◌&&◌, codes, if◌then◌else◌}
use Rattle.std.specs.Cmp.Lexicographic.{pointwise}
use Rattle.std.specs.List.{flat_map}
use Rattle.mysql_repl.specs.declared.gno_interval.GnoInterval.{GnoInterval}
use Rattle.mysql_repl.specs.declared.sid.Sid.{Sid}
use Rattle.mysql_repl.specs.GnoInterval.{end}
use Rattle.mysql_repl.specs.ProperSid.{ProperSid}
use Rattle.mysql_repl.specs.Sid.{uuid, tag, intervals}
use Rattle.mysql_repl.specs.SidText.{tag_text, interval_text, sid_text}

-- a sid with a tag, after one with the same uuid
abbrev pub goes_on : (before after : Sid) → Bool
goes_on before after = is_some (tag after) && pointwise nat_eq (uuid before) (uuid after)

-- the tag and the intervals
abbrev pub words_text : Sid → List ℕ
words_text s = tag_text (tag s) ++ flat_map interval_text (intervals s)

-- a sid with the same uuid continues without it; another one follows after a comma and a newline
abbrev pub next_text : (before : Option Sid) → Sid → List ℕ
next_text None s = sid_text s
next_text (Some before) s = if goes_on before s then words_text s else codes ",\n" ++ sid_text s

abbrev pub texts_after : (before : Option Sid) → List Sid → List ℕ
texts_after before [] = []
texts_after before (s ∷ sids) = next_text before s ++ texts_after (Some s) sids

unfoldable pub set_text : List Sid → List ℕ
set_text sids = texts_after None sids

-- ---- when that text is read back

-- each end is at most 2^63 - 1
abbrev pub EndsFit : List GnoInterval → Type 0
EndsFit [] = Unit {0}
EndsFit (i ∷ is) = (end i < 2 ^ 63) × EndsFit is

-- a sid whose own text is read back, with numbers that servers accept
pub record SidInSet (s : Sid) : Type 0 where
  pub proper : ProperSid s
  pub ends : EndsFit (intervals s)

abbrev pub SidsInSet : List Sid → Type 0
SidsInSet [] = Unit {0}
SidsInSet (s ∷ sids) = SidInSet s × SidsInSet sids
