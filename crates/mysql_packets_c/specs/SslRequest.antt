-- The request for TLS, in C.
use Rattle.std.specs.Prelude.{◌≡◌, ℕ, List}
use Rattle.mysql_auth.specs.SslRequest as ssl
use Rattle.mysql_auth.specs.declared.ssl_request.SslRequest.{SslRequest}
use Rattle.mysql_packets_c.specs.declared.ssl_request.CSslRequest.{CSslRequest}

pub record IsSslRequest (p : SslRequest) (rest : List ℕ) (out : CSslRequest) : Type 0 where
  pub capabilities : out.capabilities ≡ (ssl.capabilities p).0
  pub max_packet_size : out.max_packet_size ≡ ssl.max_packet_size p
  pub mariadb_capabilities : out.mariadb_capabilities ≡ (ssl.mariadb_capabilities p).0
  pub character_set : out.character_set ≡ ssl.character_set p
