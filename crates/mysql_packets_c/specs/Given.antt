-- Optional values in C.
use Rattle.std.specs.Prelude.{◌≡◌, ◌<◌, ℕ, Bool, ◌==◌, not, List, [], Option, Some, None, if◌then◌else◌}

-- a number other than 0 means that a value is present
abbrev pub is_set : ℕ → Bool
is_set n = not (n == 0)

abbrev pub if_set : {A : Type 0} → ℕ → A → Option A
if_set n a = if is_set n then Some a else None

-- 1 if it was sent, otherwise 0
pub record SaysSent (has : ℕ) (bytes : List ℕ) : Type 0 where
  pub flag : has < 2
  pub none : has ≡ 0 → bytes ≡ []
