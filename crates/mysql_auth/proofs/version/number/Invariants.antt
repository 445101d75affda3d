use Rattle.std.proofs.Common.{◌≡◌, ◌+◌, ◌-◌, ◌<◌, ◌≤◌, ◌^◌, length, take, drop, ℕ, List}
use Rattle.std.specs.Str.Parse.{digits_value}
use Rattle.mysql_auth.specs.Version.{digit_count}
use Rattle.mysql_auth.proofs.version.number.Given as goal

-- the digits so far, and the number that they denote
pub record SoFar (text : List ℕ) (most number count : ℕ) : Type 0 where
  pub few : count ≤ most
  pub within : count ≤ length text
  pub counted : digit_count most text ≡ count + digit_count (most - count) (drop count text)
  pub value : number ≡ digits_value 10 (take count text)
  pub small : number < 10 ^ count

abbrev pub invariant-loop-count : goal.invariant-loop-count
invariant-loop-count l = SoFar l.text l.most l.number l.count

abbrev pub decreases-loop-count : goal.decreases-loop-count
decreases-loop-count l = l.most - l.count
