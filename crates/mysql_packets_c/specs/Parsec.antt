-- The parameters of the plugin parsec, in C.
use Rattle.std.specs.Prelude.{◌≡◌, ℕ, List, Option, Some, None}
use Rattle.mysql_packets_c.specs.declared.text.CBytes.{CBytes}

-- 0 if the rounds and the salt were found; otherwise 2, and both are unchanged
abbrev pub SaltInto : Option (ℕ × List ℕ) → ℕ → ℕ → ℕ → CBytes → CBytes → Type 0
SaltInto (Some found) code rounds_old rounds old new = (code ≡ 0) × (rounds ≡ found.0) × (new.bytes.now ≡ found.1)
SaltInto None code rounds_old rounds old new = (code ≡ 2) × (rounds ≡ rounds_old) × (new ≡ old)
