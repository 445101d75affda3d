use Rattle.std.proofs.Common.{ℕ, List, subst}
use Rattle.std.specs.Prelude.{IfNone}
use Rattle.mysql_auth.specs.Version.{HasVersion}
use Rattle.mysql_auth.proofs.handshake.HandshakePacket.server_version_parsed.Goals as goal

pub returns-clause-none : goal.returns-clause-none
returns-clause-none c =
    subst (λ (text : List ℕ). IfNone c.server_version.result ((v : ℕ × ℕ × ℕ) → HasVersion text v → ⊥)) c.server_version_ref.ensures.value c.server_version.ensures.none
