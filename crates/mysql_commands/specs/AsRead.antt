-- What was read is written unchanged: what this means.
use Rattle.std.specs.Prelude.{◌≡◌, ℕ, ◌<◌, List, [], ◌∷◌, ◌++◌}
use Rattle.mysql_wire.specs.Form.{Form}

-- each of these is a byte
abbrev pub AreBytes : List ℕ → Type 0
AreBytes [] = Unit {0}
AreBytes (b ∷ bytes) = (b < 256) × AreBytes bytes

-- what the form reads is written unchanged
abbrev pub Exact : {A : Type 0} → Form A → (A → List ℕ) → Type 0
Exact f bytes = (v : _) (before rest : List ℕ) → AreBytes before → f.Spells v before rest → bytes v ++ rest ≡ before
