-- Runs of the machine from one state to another, step by step.
use Rattle.std.specs.Prelude.{◌≡◌, List, [], ◌∷◌}

abbrev pub Runs : {S X : Type 0} → (S → X → S → Type 0) → S → List X → S → Type 0
Runs step s [] t = s ≡ t
Runs step s (x ∷ xs) t = (mid : _) × step s x mid × Runs step mid xs t
