-- The invariant of a reader of an execution's parameters.
use Rattle.std.specs.Prelude.{◌≡◌, ℕ, ◌≤◌, Bool, true, false, IsTrue, List, [], length}
use Rattle.std.specs.List.{All}
use Rattle.mysql_stmt.specs.Attributes.{HasMarks}
use Rattle.mysql_stmt.specs.SentTypes.{NamedType}

-- a type for each remaining parameter if types are sent, otherwise none
abbrev pub Suffice : (sends_types : Bool) → ℕ → List NamedType → Type 0
Suffice true left types = left ≤ length types
Suffice false left types = types ≡ []

-- the bitmap has a bit for each remaining parameter and each remaining type
pub record IsBound (sends_types : Bool) (left : ℕ) (nulls : List ℕ) (none : Bool) (place : ℕ) (types : List NamedType) : Type 0 where
  pub params : HasMarks nulls place left
  pub attributes : HasMarks nulls place (length types)
  pub clear : IsTrue none → All (λ b. b ≡ 0) nulls
  pub suffice : Suffice sends_types left types
