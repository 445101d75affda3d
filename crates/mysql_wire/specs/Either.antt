-- One of two values.
use Rattle.std.specs.Prelude.{ℕ, List}
use Rattle.mysql_wire.specs.declared.either.Either.{Either}
use Rattle.mysql_wire.specs.declared.either.Either.TheVariants.{Left, Right}

-- the bytes of the value that is present
abbrev pub either_bytes : {A B : Type 0} → (A → List ℕ) → (B → List ℕ) → Either A B → List ℕ
either_bytes left right (Left value) = left value
either_bytes left right (Right value) = right value
