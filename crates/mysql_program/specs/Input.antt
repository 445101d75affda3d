-- The program's input.
use Rattle.std.specs.Prelude.{ℕ, ◌≤◌, List, Option, length}
use Rattle.std.specs.Io.KnownBytes.{Consumes, IsAtEnd}

-- the reader returned these bytes, and has no more; nothing is said about a reader whose bytes are unknown
abbrev pub GaveAll : Option (List ℕ) → Option (List ℕ) → List ℕ → Type 0
GaveAll old new input = Consumes old new input × IsAtEnd new

-- the reader returned a given number of bytes, or more
abbrev pub GaveAtLeast : ℕ → Option (List ℕ) → Option (List ℕ) → Type 0
GaveAtLeast count old new = (input : List ℕ) × Consumes old new input × (count ≤ length input)
