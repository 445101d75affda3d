use Rattle.std.proofs.Common.{ℕ, List, subst}
use Rattle.std.specs.Prelude.{IfNone}
use Rattle.mysql_auth.specs.Version.{IsMariadbVersion}
use Rattle.mysql_auth.proofs.handshake.HandshakePacket.maria_db_server_version_parsed.Goals as goal

pub returns-clause-none : goal.returns-clause-none
returns-clause-none c =
    subst (λ (text : List ℕ). IfNone c.mariadb_server_version.result ((v : ℕ × ℕ × ℕ) → IsMariadbVersion text v → ⊥)) c.server_version_ref.ensures.value c.mariadb_server_version.ensures.none
