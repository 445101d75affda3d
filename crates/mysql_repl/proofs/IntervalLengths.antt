-- The length of intervals.
use Rattle.std.proofs.Common.{◌≡◌, ◌+◌, ◌*◌, List, [], ◌∷◌, ◌++◌, length, refl, arith}
use Rattle.std.proofs.lemmas.List.{length-append}
use Rattle.std.specs.List.{flat_map}
use Rattle.mysql_wire.specs.LittleEndian.{length-le_bytes}
use Rattle.mysql_wire.specs.Writing.{le_bytes}
use Rattle.mysql_repl.specs.declared.gno_interval.GnoInterval.{GnoInterval}
use Rattle.mysql_repl.specs.GnoInterval.{interval, start, end}

-- one takes sixteen
one-length : (i : GnoInterval) → length (interval.bytes i) ≡ 16
unfolding interval
one-length i =
    let after = length-append (le_bytes 8 (end i)) [] in
    omega (arith, length-append (le_bytes 8 (start i)) (le_bytes 8 (end i) ++ []), after, length-le_bytes 8 (start i), length-le_bytes 8 (end i))

each-length : (is : List GnoInterval) → length (flat_map interval.bytes is) ≡ 16 * length is
each-length [] = refl
each-length (i ∷ is) = omega (arith, length-append (interval.bytes i) (flat_map interval.bytes is), one-length i, each-length is)

-- and the count before them eight
pub intervals-length : (is : List GnoInterval) → length (le_bytes 8 (length is) ++ flat_map interval.bytes is) ≡ 8 + 16 * length is
intervals-length is = omega (arith, length-append (le_bytes 8 (length is)) (flat_map interval.bytes is), length-le_bytes 8 (length is), each-length is)

pub ruleset interval_lengths = (intervals-length)
