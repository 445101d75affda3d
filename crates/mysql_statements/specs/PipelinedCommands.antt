-- Pipelined commands, which were sent before earlier ones were answered.
use Rattle.std.specs.Prelude.{◌≡◌, ℕ, ◌<◌, ◌≤◌, nat_lt, nat_le, Bool, ◌&&◌, List, [], ◌∷◌, ◌++◌, length, if◌then◌else◌}
use Rattle.mysql_statements.specs.declared.limits.PipelinedLimits.{PipelinedLimits}

-- a command, and the number of its exchange
pub record Command : Type 0 where
  pub number : ℕ
  pub payload : List ℕ

-- how many may wait, and those that wait, in order
pub record Queue : Type 0 where
  pub limits : PipelinedLimits
  pub commands : List Command

abbrev pub command : ℕ → List ℕ → Command
command n p = record { number = n; payload = p }

abbrev pub number : Command → ℕ
number c = c.number

abbrev pub payload : Command → List ℕ
payload c = c.payload

abbrev pub waiting : Queue → ℕ
waiting q = length q.commands

abbrev pub none_waits : PipelinedLimits → Queue
none_waits limits = record { limits = limits; commands = [] }

-- one more command may wait
abbrev pub has_place : Queue → List ℕ → Bool
has_place q p = nat_lt (length q.commands) q.limits.commands && nat_le (length p) q.limits.bytes

-- the command waits, if there is a place
abbrev pub held : ℕ → List ℕ → Queue → Queue
held n p q = if has_place q p then record { limits = q.limits; commands = q.commands ++ command n p ∷ [] } else q

-- the first waiting command is processed if the server has reached its exchange
abbrev pub Serves : ℕ → Queue → Command → Queue → Type 0
Serves n old c new = (c.number ≤ n) × (old.commands ≡ c ∷ new.commands) × (new.limits ≡ old.limits)

abbrev pub FirstIsLater : ℕ → List Command → Type 0
FirstIsLater n [] = Unit {0}
FirstIsLater n (c ∷ cs) = n < c.number
