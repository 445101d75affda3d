use Rattle.mysql_auth.specs.Version.{IsMariadbVersion}
use Rattle.mysql_packets_c.proofs.Versions.{version-found, version-none}
use Rattle.mysql_packets_c.proofs.server_version.myp_read_mariadb_version.Goals as goal

pub returns-in-Some : goal.returns-in-Some
returns-in-Some c = record { value = version-found IsMariadbVersion _ _ _ _ _ c.handshake_with-packet.ensures.value c.in-Some.ensures.some c.put_version.ensures.value }

pub returns : goal.returns
returns c = record { value = version-none IsMariadbVersion _ _ _ c.handshake_with-packet.ensures.value c.in-None.ensures.none }
