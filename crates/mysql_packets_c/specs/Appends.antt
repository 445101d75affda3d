-- Bytes that are appended to a buffer.
use Rattle.std.specs.Prelude.{◌≡◌, ℕ, ◌≤◌, ◌++◌, List, length, drop}

-- The bytes are appended to those that the buffer held, and overwrite as many of those that followed.
pub record Appends {B K : Type 0} (held following : B → List ℕ) (capacity_of : B → ℕ) (same : B → K) (bytes : List ℕ) (old new : B) : Type 0 where
  pub items : held new ≡ held old ++ bytes
  pub after : following new ≡ drop (length bytes) (following old)
  pub capacity : capacity_of old ≤ capacity_of new
  pub kept : same new ≡ same old
