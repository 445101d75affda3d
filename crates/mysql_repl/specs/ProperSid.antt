-- Sids whose text is read back.
use Rattle.std.specs.Prelude.{◌≡◌, ◌<◌, ◌^◌, List, [], ◌∷◌, length}
use Rattle.std.specs.List.{All}
use Rattle.mysql_repl.specs.declared.gno_interval.GnoInterval.{GnoInterval}
use Rattle.mysql_repl.specs.declared.sid.Sid.{Sid}
use Rattle.mysql_repl.specs.GnoInterval.{start, end}
use Rattle.mysql_repl.specs.TagString.{OptionalTag}

-- the first number is not 0, and is below the end, which fits in 64 bits
pub record ProperInterval (i : GnoInterval) : Type 0 where
  pub some : 0 < start i
  pub order : start i < end i
  pub fits : end i < 2 ^ 64

abbrev pub AllProper : List GnoInterval → Type 0
AllProper [] = Unit {0}
AllProper (i ∷ is) = ProperInterval i × AllProper is

-- at least one
abbrev pub ProperIntervals : List GnoInterval → Type 0
ProperIntervals [] = ⊥
ProperIntervals (i ∷ is) = ProperInterval i × AllProper is

-- sixteen bytes, a valid tag, as they always are, and at least one interval, each as above
pub record ProperSid (s : Sid) : Type 0 where
  pub uuid : length s.uuid ≡ 16
  pub bytes : All (λ b. b < 256) s.uuid
  pub tag : OptionalTag s.tag
  pub intervals : ProperIntervals s.intervals
