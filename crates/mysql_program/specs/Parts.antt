-- Bytes in parts.
use Rattle.std.specs.Prelude.{ℕ, Bool, ◌==◌}

-- whether a byte is a separator
abbrev pub is_byte : ℕ → ℕ → Bool
is_byte separator byte = byte == separator
