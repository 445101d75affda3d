-- The version of a server, in C.
use Rattle.std.specs.Prelude.{◌≡◌, ◌≢◌, ℕ}
use Rattle.mysql_packets_c.specs.declared.server_version.CServerVersion.{CServerVersion}

abbrev pub numbers : CServerVersion → ℕ × ℕ × ℕ
numbers v = (v.major, v.minor, v.patch)

-- 0, and the struct has the text's version; otherwise 2 for a text without one, and the struct is unchanged
pub record VersionInto (Has : ℕ × ℕ × ℕ → Type 0) (code : ℕ) (old new : CServerVersion) : Type 0 where
  pub found : code ≡ 0 → Has (numbers new)
  pub none : code ≢ 0 → (v : ℕ × ℕ × ℕ) → Has v → ⊥
  pub refused : code ≢ 0 → (code ≡ 2) × (new ≡ old)
