-- The login of a client, in C.
use Rattle.std.specs.Int.{bit_at}
use Rattle.std.specs.Prelude.{◌≡◌, ◌≢◌, ◌<◌, ℕ, Bool, ◌==◌, ◌||◌, List, option_map}
use Rattle.mysql_auth.specs.AuthPlugin.{plugin_name, plugin_of}
use Rattle.mysql_auth.specs.ConnectAttributesRef.{ArePairs, pairs_in}
use Rattle.mysql_auth.specs.HandshakeResponse as response
use Rattle.mysql_auth.specs.declared.handshake_response.HandshakeResponse.{HandshakeResponse}
use Rattle.mysql_wire.specs.FlagMasks.{CLIENT_CONNECT_WITH_DB, CLIENT_PLUGIN_AUTH, CLIENT_CONNECT_ATTRS}
use Rattle.mysql_wire.specs.Flags.{has}
use Rattle.mysql_packets_c.specs.Attributes.{are_texts, merged_pairs}
use Rattle.mysql_packets_c.specs.Given.{SaysSent, if_set, is_set}
use Rattle.mysql_packets_c.specs.Input.{used_of}
use Rattle.mysql_packets_c.specs.declared.attributes.CAttribute.{CAttribute}
use Rattle.mysql_packets_c.specs.declared.login.CLogin.{CLogin}

-- the attributes that are sent are UTF-8
abbrev pub login_texts : CLogin → List CAttribute → Bool
login_texts c given = (c.has_attributes == 0) || are_texts given

-- the login with these fields and attributes: the flags of optional fields are set if these are present, and the others are the caller's
pub record IsLogin (c : CLogin) (given : List CAttribute) (p : HandshakeResponse) : Type 0 where
  pub user : response.user p ≡ c.user.now
  pub auth_response : response.scramble_buf p ≡ c.auth_response.now
  pub database : response.db_name p ≡ if_set c.has_database c.database.now
  pub auth_plugin : response.auth_plugin p ≡ if_set c.has_auth_plugin_name (plugin_of c.auth_plugin_name.now)
  pub attributes : response.connect_attributes p ≡ if_set c.has_attributes (merged_pairs given)
  pub zstd_level : response.zstd_level p ≡ if_set c.has_zstd_level c.zstd_level
  pub max_packet_size : response.max_packet_size p ≡ c.max_packet_size
  pub collation : response.collation p ≡ c.collation
  pub mariadb_capabilities : (response.mariadb_ext_capabilities p).0 ≡ c.mariadb_capabilities
  pub database_flag : has (response.capabilities p).0 CLIENT_CONNECT_WITH_DB ≡ is_set c.has_database
  pub plugin_flag : has (response.capabilities p).0 CLIENT_PLUGIN_AUTH ≡ is_set c.has_auth_plugin_name
  pub attributes_flag : has (response.capabilities p).0 CLIENT_CONNECT_ATTRS ≡ is_set c.has_attributes
  pub other_flags : (i : ℕ) → i < 32 → i ≢ 3 → i ≢ 19 → i ≢ 20 → bit_at (response.capabilities p).0 i ≡ bit_at c.capabilities i

-- the response with the attributes, if there are any
abbrev pub with_attributes : CLogin → List CAttribute → HandshakeResponse → HandshakeResponse
with_attributes c given p = record p { connect_attributes = if_set c.has_attributes (merged_pairs given) }

-- Fields that were not sent are empty. The plugin's name contains no zero that was not sent, and the bytes of the attributes are complete
-- pairs: each that was sent, also if its name is repeated.
pub record HoldsLogin (packet : List ℕ) (p : HandshakeResponse) (rest : List ℕ) (out : CLogin) : Type 0 where
  pub user : out.user.now ≡ response.user p
  pub auth_response : out.auth_response.now ≡ response.scramble_buf p
  pub database : if_set out.has_database out.database.now ≡ response.db_name p
  pub has_database : SaysSent out.has_database out.database.now
  pub auth_plugin_name : option_map plugin_of (if_set out.has_auth_plugin_name out.auth_plugin_name.now) ≡ response.auth_plugin p
  pub auth_plugin_bytes : if_set out.has_auth_plugin_name out.auth_plugin_name.now ≡ option_map plugin_name (response.auth_plugin p)
  pub has_auth_plugin_name : SaysSent out.has_auth_plugin_name out.auth_plugin_name.now
  pub attributes : option_map pairs_in (if_set out.has_attributes out.attributes.now) ≡ response.connect_attributes p
  pub whole_attributes : ArePairs out.attributes.now
  pub has_attributes : SaysSent out.has_attributes out.attributes.now
  pub zstd_level : if_set out.has_zstd_level out.zstd_level ≡ response.zstd_level p
  pub capabilities : out.capabilities ≡ (response.capabilities p).0
  pub mariadb_capabilities : out.mariadb_capabilities ≡ (response.mariadb_ext_capabilities p).0
  pub max_packet_size : out.max_packet_size ≡ response.max_packet_size p
  pub collation : out.collation ≡ response.collation p
  pub used : out.used ≡ used_of packet rest
