-- Sids whose intervals are in the form that servers write.
use Rattle.std.specs.Prelude.{ℕ, ◌^◌, List, [], ◌∷◌, Bool, true, ◌&&◌, nat_lt}
use Rattle.std.specs.List.{list_all}
use Rattle.mysql_repl.specs.declared.gno_interval.GnoInterval.{GnoInterval}
use Rattle.mysql_repl.specs.declared.sid.Sid.{Sid}
use Rattle.mysql_repl.specs.GnoInterval.{start, end}
use Rattle.mysql_repl.specs.Sid.{intervals}

-- at least one transaction, after this number, and none from 2^63 - 1 on
abbrev pub is_after : (last : ℕ) → GnoInterval → Bool
is_after last i = nat_lt last (start i) && (nat_lt (start i) (end i) && nat_lt (end i) (2 ^ 63))

-- each after the end of the previous one, without touching it
abbrev pub are_after : (last : ℕ) → List GnoInterval → Bool
are_after last [] = true
are_after last (i ∷ is) = is_after last i && are_after (end i) is

-- the first begins at 1 or later
abbrev pub is_canonical : Sid → Bool
is_canonical s = are_after 0 (intervals s)

abbrev pub are_as_servers_write : List Sid → Bool
are_as_servers_write sids = list_all is_canonical sids
