-- The results for a version text.
use Rattle.std.proofs.Common.{◌≡◌, ℕ, List, refl, subst}
use Rattle.mysql_packets_c.specs.ServerVersion.{VersionInto, numbers}
use Rattle.mysql_packets_c.specs.declared.server_version.CServerVersion.{CServerVersion}

pub version-found : (Has : List ℕ → ℕ × ℕ × ℕ → Type 0) (found text : List ℕ) (v : ℕ × ℕ × ℕ) (old new : CServerVersion)
    → found ≡ text → Has found v → numbers new ≡ v → VersionInto (Has text) 0 old new
version-found Has found text v old new same has is = record {
  found = λ e. subst (λ (t : List ℕ). Has t (numbers new)) same (rw is has);
  none = λ ne. absurd (ne refl);
  refused = λ ne. absurd (ne refl);
}

pub version-none : (Has : List ℕ → ℕ × ℕ × ℕ → Type 0) (found text : List ℕ) (old : CServerVersion)
    → found ≡ text → ((v : ℕ × ℕ × ℕ) → Has found v → ⊥) → VersionInto (Has text) 2 old old
version-none Has found text old same none = record {
  found = λ e. absurd cc;
  none = λ ne v has. none v (rw same has);
  refused = λ ne. (refl, refl);
}
