-- Where a slice lies: its allocation, and its offset in it.
use Rattle.std.specs.Prelude.{ℕ, ◌+◌}

-- this many bytes further on
abbrev pub at : ℕ → ℕ × ℕ → ℕ × ℕ
at count place = (place.0, place.1 + count)
