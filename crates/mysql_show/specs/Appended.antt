-- Text that is appended.
use Rattle.std.specs.Prelude.{◌≡◌, ℕ, List, ◌++◌}

-- the earlier text is unchanged
abbrev pub Stays : List ℕ → List ℕ → Type 0
Stays old new = (more : List ℕ) × (new ≡ old ++ more)
