-- A number that is 0 or 1, as a truth value.
use Rattle.std.specs.Prelude.{◌≡◌, ℤ, pos, Bool, true, false}
use Rattle.std.proofs.Common.{sym}
use Rattle.mysql_values.specs.ByContent.{GoesByContent, int_in}
use Rattle.mysql_values.specs.declared.value.Value.{Value}
use Rattle.mysql_values.specs.declared.value.Value.TheVariants.{Int}
use Rattle.test_probe_statements.specs.declared.own.Switch.{Switch}

-- 0 or 1
abbrev pub number_of : Bool → ℤ
number_of false = pos 0
number_of true = pos 1

-- the number of the truth value
abbrev pub AsSwitch : Value → Switch → Type 0
AsSwitch (Int x) switch = x ≡ number_of switch.0
AsSwitch _ switch = ⊥

-- a value that holds the same number is the same truth value
pub switch_by_content : GoesByContent AsSwitch
switch_by_content (Int x) b e h = (h.0, rw (int_in b x (sym e)) h.1)
switch_by_content _ b e h = absurd h.1
