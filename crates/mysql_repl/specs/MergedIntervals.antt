-- Intervals in order that don't touch.
use Rattle.std.specs.Prelude.{ℕ, ◌<◌, ◌^◌, List, [], ◌∷◌, max, Bool, true, ◌&&◌, nat_lt, nat_le, if◌then◌else◌}
use Rattle.std.specs.List.{list_any}
use Rattle.mysql_repl.specs.declared.gno_interval.GnoInterval.{GnoInterval}
use Rattle.mysql_repl.specs.GnoInterval.{start, end, interval_of}

-- whether an interval contains this number
abbrev pub has_number : ℕ → GnoInterval → Bool
has_number n i = nat_le (start i) n && nat_lt n (end i)

-- whether one of them contains it
abbrev pub any_has : ℕ → List GnoInterval → Bool
any_has n is = list_any (has_number n) is

-- whether an interval contains any number
abbrev pub has_any : GnoInterval → Bool
has_any i = nat_lt (start i) (end i)

-- each is not empty, and begins after this number or after the end of the previous one
abbrev pub are_apart_after : (last : ℕ) → List GnoInterval → Bool
are_apart_after last [] = true
are_apart_after last (i ∷ is) = nat_lt last (start i) && (has_any i && are_apart_after (end i) is)

-- each is not empty, and begins after the end of the previous one
abbrev pub are_apart : List GnoInterval → Bool
are_apart [] = true
are_apart (i ∷ is) = has_any i && are_apart_after (end i) is

-- numbers that servers accept: from 1 to 2^63 - 2
abbrev pub NumbersFit : List GnoInterval → Type 0
NumbersFit [] = Unit {0}
NumbersFit (i ∷ is) = (0 < start i) × (end i < 2 ^ 63) × NumbersFit is

-- ---- merging

-- from the start of the first to the end of either
abbrev pub hull : (first second : GnoInterval) → GnoInterval
hull i j = interval_of (start i) (max (end i) (end j))

-- intervals of an ordered list that touch become one
abbrev pub merged_from : GnoInterval → List GnoInterval → List GnoInterval
merged_from i [] = i ∷ []
merged_from i (j ∷ js) = if nat_lt (end i) (start j) then i ∷ merged_from j js else merged_from (hull i j) js

abbrev pub merged : List GnoInterval → List GnoInterval
merged [] = []
merged (i ∷ is) = merged_from i is
