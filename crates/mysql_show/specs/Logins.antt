-- The fields of packets before the commands, and of a change of user. The client's authentication data is not among them.
use Rattle.std.specs.Prelude.{ℕ, List, [], ◌∷◌, ◌++◌, Option, Some, None, codes, option_map}
use Rattle.mysql_auth.specs.AuthPlugin.{plugin_name}
use Rattle.mysql_auth.specs.ComChangeUser as change
use Rattle.mysql_auth.specs.EofName.{without_last_zero}
use Rattle.mysql_auth.specs.Handshake as greeting
use Rattle.mysql_auth.specs.HandshakeResponse as login
use Rattle.mysql_auth.specs.PluginRequest as request
use Rattle.mysql_auth.specs.SslRequest as tls
use Rattle.mysql_auth.specs.declared.com_change_user.ComChangeUser.{ComChangeUser}
use Rattle.mysql_auth.specs.Handshake.{HandshakePacket}
use Rattle.mysql_auth.specs.declared.handshake_response.HandshakeResponse.{HandshakeResponse}
use Rattle.mysql_auth.specs.PluginRequest.{PluginRequest}
use Rattle.mysql_auth.specs.declared.ssl_request.SslRequest.{SslRequest}
use Rattle.mysql_show.specs.Fields.{Said, said, Number, Bytes, OptionalBytes}

-- the versions in the greeting
abbrev pub version_fields : HandshakePacket → List Said
version_fields p =
    said (codes "protocol_version") (Number (greeting.protocol_version p))
    ∷ said (codes "server_version") (Bytes (greeting.server_version p))
    ∷ []

-- the rest of the greeting: both halves of the scramble, the server's capabilities, and its plugin
abbrev pub greeting_fields : HandshakePacket → List Said
greeting_fields p =
    said (codes "connection_id") (Number (greeting.connection_id p))
    ∷ said (codes "scramble_1") (Bytes (greeting.scramble_1 p))
    ∷ said (codes "scramble_2") (OptionalBytes (greeting.scramble_2 p))
    ∷ said (codes "capabilities") (Number (greeting.capabilities p))
    ∷ said (codes "default_collation") (Number (greeting.default_collation p))
    ∷ said (codes "status_flags") (Number (greeting.status_flags p).0)
    ∷ said (codes "mariadb_ext_capabilities") (Number (greeting.mariadb_ext_capabilities p).0)
    ∷ said (codes "auth_plugin_name") (OptionalBytes (greeting.auth_plugin_name p))
    ∷ []

abbrev pub ssl_request_fields : SslRequest → List Said
ssl_request_fields r =
    said (codes "capabilities") (Number (tls.capabilities r).0)
    ∷ said (codes "max_packet_size") (Number (tls.max_packet_size r))
    ∷ said (codes "collation") (Number (tls.character_set r))
    ∷ said (codes "mariadb_ext_capabilities") (Number (tls.mariadb_capabilities r).0)
    ∷ []

-- a login's flags, user, database and plugin name
abbrev pub login_head : HandshakeResponse → List Said
login_head l =
    said (codes "capabilities") (Number (login.capabilities l).0)
    ∷ said (codes "max_packet_size") (Number (login.max_packet_size l))
    ∷ said (codes "collation") (Number (login.collation l))
    ∷ said (codes "mariadb_ext_capabilities") (Number (login.mariadb_ext_capabilities l).0)
    ∷ said (codes "user") (Bytes (login.user l))
    ∷ said (codes "db_name") (OptionalBytes (login.db_name l))
    ∷ said (codes "auth_plugin_name") (OptionalBytes (option_map plugin_name (login.auth_plugin l)))
    ∷ []

abbrev pub zstd_fields : Option ℕ → List Said
zstd_fields None = []
zstd_fields (Some level) = said (codes "zstd_level") (Number level) ∷ []

abbrev pub login_fields : HandshakeResponse → List Said
login_fields l = login_head l ++ zstd_fields (login.zstd_level l)

-- a switch of plugins, or a request for the next factor
abbrev pub plugin_fields : {T : Type 0} → {header : ℕ} → PluginRequest T header → List Said
plugin_fields r = said (codes "auth_plugin_name") (Bytes (request.plugin_name r)) ∷ said (codes "plugin_data") (Bytes (without_last_zero (request.plugin_data r))) ∷ []

abbrev pub change_user_fields : ComChangeUser → List Said
change_user_fields c = said (codes "user") (Bytes (change.user c)) ∷ said (codes "database") (Bytes (change.database c)) ∷ []
