-- A text begins with at most one version.
use Rattle.std.proofs.Common.{◌≡◌, ℕ, List}
use Rattle.mysql_wire.specs.Once.{one-value}
use Rattle.mysql_auth.specs.Version.{version, mariadb_version, HasVersion, HasMariadbVersion}

pub version-once : (text : List ℕ) (v w : ℕ × ℕ × ℕ) → HasVersion text v → HasVersion text w → v ≡ w
version-once text v w s t = one-value version v w text s.0 t.0 s.1 t.1

pub mariadb_version-once : (text : List ℕ) (v w : ℕ × ℕ × ℕ) → HasMariadbVersion text v → HasMariadbVersion text w → v ≡ w
mariadb_version-once text v w s t = one-value mariadb_version v w text s.0 t.0 s.1 t.1
