-- Skipped bytes.
use Rattle.std.specs.Prelude.{◌≡◌, ℕ, List, Some, refl}
use Rattle.mysql_wire.specs.Form.{Form, map, bytes}
use Rattle.mysql_wire.specs.declared.skip.Skip.{Skip}

-- skipped bytes aren't kept
abbrev pub skipped : {N : ℕ} → List ℕ → Skip N
skipped inside = record {}

-- bytes with any values
unfoldable pub skip : (n : ℕ) → Form (Skip n)
skip n = map skipped (bytes n)

pub size-skip : (n : ℕ) → (skip n).size ≡ Some n
unfolding skip bytes
size-skip n = refl
