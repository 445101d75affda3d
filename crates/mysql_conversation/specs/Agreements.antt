-- What both sides agreed on, as far as conversations depend on it.
use Rattle.std.specs.Prelude.{ℕ, Bool, ◌||◌, bit_and, if◌then◌else◌}
use Rattle.mysql_wire.specs.FlagMasks.{CLIENT_LONG_PASSWORD, CLIENT_COMPRESS, CLIENT_ZSTD_COMPRESSION_ALGORITHM, CLIENT_DEPRECATE_EOF, CLIENT_PROGRESS_OBSOLETE, MULTI_FACTOR_AUTHENTICATION, MARIADB_CLIENT_PROGRESS}
use Rattle.mysql_wire.specs.Flags.{has}
use Rattle.mysql_replies.specs.declared.session_capabilities.SessionCapabilities.{SessionCapabilities}

-- the flags that both sides set, or those of one side
abbrev pub Agreed : Type 0
Agreed = SessionCapabilities

-- rows end with an OK packet, and definitions without an end packet
abbrev pub deprecates_eof : Agreed → Bool
deprecates_eof a = has a.mysql.0 CLIENT_DEPRECATE_EOF

-- progress may be reported
abbrev pub reports_progress : Agreed → Bool
reports_progress a = has a.mysql.0 CLIENT_PROGRESS_OBSOLETE || has a.mariadb.0 MARIADB_CLIENT_PROGRESS

-- the server may request another authentication factor
abbrev pub asks_factors : Agreed → Bool
asks_factors a = has a.mysql.0 MULTI_FACTOR_AUTHENTICATION

-- packets are sent in compressed packets
abbrev pub compresses : Agreed → Bool
compresses a = has a.mysql.0 CLIENT_COMPRESS || has a.mysql.0 CLIENT_ZSTD_COMPRESSION_ALGORITHM

-- a MySQL client sets CLIENT_LONG_PASSWORD and none of MariaDB's own capabilities
abbrev pub own_capabilities : ℕ → ℕ → ℕ
own_capabilities client own = if has client CLIENT_LONG_PASSWORD then 0 else own

-- the flags that both sides set
abbrev pub agreed_on : (server : Agreed) (client : Agreed) → Agreed
agreed_on server client = record {
  mysql = record { 0 = bit_and server.mysql.0 client.mysql.0; 1 = record {} };
  mariadb = record { 0 = own_capabilities client.mysql.0 (bit_and server.mariadb.0 client.mariadb.0); 1 = record {} };
}
