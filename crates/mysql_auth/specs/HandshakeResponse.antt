-- The handshake response.
use Rattle.std.specs.Prelude.{◌≡◌, ℕ, ◌<◌, ◌^◌, ◌==◌, ◌&&◌, ◌||◌, nat_lt, nat_le, List, [], length, Option, Some, None, Bool, true, false, if◌then◌else◌, refl}
use Rattle.std.proofs.Common.{arith}
use Rattle.std.specs.Option.{option_map}
use Rattle.mysql_wire.specs.Codec.{Codec, Fields}
use Rattle.mysql_wire.specs.Codecs.{◌>>=◌, give, field, packet, when, one_of, if_bytes_left, u8, raw_int, string_null, string_u8, string_lenenc}
use Rattle.mysql_wire.specs.FlagMasks.{CLIENT_CONNECT_WITH_DB, CLIENT_SECURE_CONNECTION, CLIENT_PLUGIN_AUTH, CLIENT_CONNECT_ATTRS, CLIENT_PLUGIN_AUTH_LENENC_CLIENT_DATA, CLIENT_ZSTD_COMPRESSION_ALGORITHM}
use Rattle.mysql_wire.specs.Flags.{CapabilityFlags, MariadbCapabilities, has}
use Rattle.mysql_wire.specs.Null.{HasNoZero}
use Rattle.mysql_wire.specs.Optional.{optional_bytes}
use Rattle.mysql_wire.specs.Writing.{le_bytes}
use Rattle.mysql_wire.specs.declared.int.RawInt.{RawInt}
use Rattle.mysql_auth.specs.Attributes.{Attribute, AreShort, AreShortIn, AttributesFit, attributes, attributes_as_sent, merged}
use Rattle.mysql_auth.specs.PluginName.{PluginFits, plugin_null_or_eof}
use Rattle.mysql_auth.specs.SslRequest as ssl
use Rattle.mysql_auth.specs.SslRequest.{ssl_request}
use Rattle.mysql_auth.specs.declared.auth_plugin.AuthPlugin.{AuthPlugin}
use Rattle.mysql_auth.specs.declared.handshake_response.HandshakeResponse.{HandshakeResponse}
use Rattle.mysql_auth.specs.declared.ssl_request.SslRequest.{SslRequest}

-- ---- values

abbrev pub capabilities : HandshakeResponse → CapabilityFlags
capabilities p = ssl.capabilities p.head

abbrev pub max_packet_size : HandshakeResponse → ℕ
max_packet_size p = ssl.max_packet_size p.head

abbrev pub collation : HandshakeResponse → ℕ
collation p = ssl.character_set p.head

abbrev pub mariadb_ext_capabilities : HandshakeResponse → MariadbCapabilities
mariadb_ext_capabilities p = ssl.mariadb_capabilities p.head

abbrev pub user : HandshakeResponse → List ℕ
user p = p.user

abbrev pub scramble_buf : HandshakeResponse → List ℕ
scramble_buf p = p.scramble_buf

abbrev pub db_name : HandshakeResponse → Option (List ℕ)
db_name p = p.db_name

abbrev pub auth_plugin : HandshakeResponse → Option AuthPlugin
auth_plugin p = p.auth_plugin

abbrev pub connect_attributes : HandshakeResponse → Option (List Attribute)
connect_attributes p = p.connect_attributes

-- the response with each key once among its attributes, at its first place and with its last value
abbrev pub with_each_key_once : HandshakeResponse → HandshakeResponse
with_each_key_once p = record p { connect_attributes = option_map merged (connect_attributes p) }

-- the zstd compression level
abbrev pub zstd_level : HandshakeResponse → Option ℕ
zstd_level p = option_map (λ level. level.0) p.zstd_level

abbrev pub with_zstd_level : Option ℕ → HandshakeResponse → HandshakeResponse
with_zstd_level level p = record p { zstd_level = option_map raw_int level }

-- the response with these MariaDB capabilities
abbrev pub with_mariadb : MariadbCapabilities → HandshakeResponse → HandshakeResponse
with_mariadb mariadb p = record p { head = ssl.with_mariadb mariadb p.head }

-- the response with this collation
abbrev pub with_collation : ℕ → HandshakeResponse → HandshakeResponse
with_collation number p = record p { head = ssl.with_character_set number p.head }

-- utf8mb4_general_ci from version 5.5.3 on, and utf8mb3_general_ci before
abbrev pub collation_for : ℕ × ℕ × ℕ → ℕ
collation_for version =
    if nat_lt 5 version.0 || (version.0 == 5 && (nat_lt 5 version.1 || (version.1 == 5 && nat_le 3 version.2)))
    then 45
    else 33

-- ---- which parts are present, by the flags

abbrev pub sends_database : SslRequest → Bool
sends_database head = has (ssl.capabilities head).0 CLIENT_CONNECT_WITH_DB

abbrev pub sends_plugin : SslRequest → Bool
sends_plugin head = has (ssl.capabilities head).0 CLIENT_PLUGIN_AUTH

abbrev pub sends_attributes : SslRequest → Bool
sends_attributes head = has (ssl.capabilities head).0 CLIENT_CONNECT_ATTRS

abbrev pub counts_by_lenenc : SslRequest → Bool
counts_by_lenenc head = has (ssl.capabilities head).0 CLIENT_PLUGIN_AUTH_LENENC_CLIENT_DATA

abbrev pub counts_by_byte : SslRequest → Bool
counts_by_byte head = has (ssl.capabilities head).0 CLIENT_SECURE_CONNECTION

abbrev pub sends_zstd_level : SslRequest → Bool
sends_zstd_level head = has (ssl.capabilities head).0 CLIENT_ZSTD_COMPRESSION_ALGORITHM

-- ---- layout

-- Length-encoded under CLIENT_PLUGIN_AUTH_LENENC_CLIENT_DATA; otherwise after a length of one byte under CLIENT_SECURE_CONNECTION;
-- otherwise terminated by a zero.
unfoldable pub scramble : SslRequest → Codec (Unit {0}) (List ℕ)
scramble head = one_of (counts_by_lenenc head) string_lenenc (one_of (counts_by_byte head) string_u8 string_null)

-- database, plugin and attributes, each under its flag
unfoldable pub database : SslRequest → Codec (Unit {0}) (Option (List ℕ))
database head = when (λ c. sends_database head) string_null

unfoldable pub plugin : SslRequest → Codec (Unit {0}) (Option AuthPlugin)
plugin head = when (λ c. sends_plugin head) plugin_null_or_eof

unfoldable pub sent_attributes : SslRequest → Codec (Unit {0}) (Option (List Attribute))
sent_attributes head = when (λ c. sends_attributes head) attributes

-- the attributes as they were sent: a key may be repeated
unfoldable pub pairs_as_sent : SslRequest → Codec (Unit {0}) (Option (List Attribute))
pairs_as_sent head = when (λ c. sends_attributes head) attributes_as_sent

-- the compression level in one byte, if it is sent and a byte is left
pub some-byte : (level : RawInt ℕ ℕ) → 0 < 1
some-byte level = omega arith

abbrev pub level_codec : (sent : Bool) → Codec (Unit {0}) (Option (RawInt ℕ ℕ))
level_codec sent = one_of sent (if_bytes_left u8 some-byte) (when (λ c. false) u8)

unfoldable pub sent_zstd_level : SslRequest → Codec (Unit {0}) (Option (RawInt ℕ ℕ))
sent_zstd_level head = level_codec (sends_zstd_level head)

-- 32 bytes as in a request for TLS; the user; the scramble; the database, the plugin name, the attributes and the compression level, each
-- under its flag
abbrev pub handshake_response_fields : (SslRequest → Codec (Unit {0}) (Option (List Attribute))) → Fields (Unit {0}) HandshakeResponse HandshakeResponse
handshake_response_fields given = do
  head ← field (λ p. p.head) ssl_request
  user ← field user string_null
  scramble_buf ← field scramble_buf (scramble head)
  db_name ← field db_name (database head)
  auth_plugin ← field auth_plugin (plugin head)
  connect_attributes ← field connect_attributes (given head)
  zstd_level ← field (λ p. p.zstd_level) (sent_zstd_level head)
  give (
      record {
        head = head;
        user = user;
        scramble_buf = scramble_buf;
        db_name = db_name;
        auth_plugin = auth_plugin;
        connect_attributes = connect_attributes;
        zstd_level = zstd_level;
      }
      )

unfoldable pub handshake_response : Codec (Unit {0}) HandshakeResponse
handshake_response = packet (handshake_response_fields sent_attributes) (λ p. refl)

-- the response as it was sent: a key may be repeated among its attributes
unfoldable pub handshake_response_as_sent : Codec (Unit {0}) HandshakeResponse
handshake_response_as_sent = packet (handshake_response_fields pairs_as_sent) (λ p. refl)

-- the bytes of a compression level, if present
abbrev pub level_bytes : Option (RawInt ℕ ℕ) → List ℕ
level_bytes level = optional_bytes (λ n. le_bytes 1 n.0) level

-- the bytes before the attributes
abbrev pub before_attributes : HandshakeResponse → List ℕ
before_attributes p = handshake_response.bytes (record p { connect_attributes = None; zstd_level = None })

pub size-handshake_response : (handshake_response.form tt).size ≡ None
unfolding handshake_response
size-handshake_response = refl

pub size-handshake_response_as_sent : (handshake_response_as_sent.form tt).size ≡ None
unfolding handshake_response_as_sent
size-handshake_response_as_sent = refl

-- ---- when a response is read back, in plain words

-- a part is present if it is sent, and fits
abbrev pub PartFits : {A : Type 0} → (A → Type 0) → Bool → Option A → Type 0
PartFits Fits sent None = sent ≡ false
PartFits Fits sent (Some part) = (sent ≡ true) × Fits part

-- a length that its form can encode, or no zero
abbrev pub ScrambleFits : (by_lenenc by_byte : Bool) → List ℕ → Type 0
ScrambleFits true by_byte scramble = length scramble < 2 ^ 64
ScrambleFits false true scramble = length scramble < 2 ^ 8
ScrambleFits false false scramble = HasNoZero scramble

-- a level is sent, and fits in a byte; if it would be sent and is missing, nothing may follow
abbrev pub LevelFits : (sent : Bool) → Option ℕ → (rest : List ℕ) → Type 0
LevelFits sent (Some level) rest = (sent ≡ true) × (level < 2 ^ 8)
LevelFits true None rest = rest ≡ []
LevelFits false None rest = Unit {0}

-- the parts, before this rest: what remains to be shown for a given response
pub record ResponsePartsFit (p : HandshakeResponse) (rest : List ℕ) : Type 0 where
  pub user : HasNoZero (user p)
  pub scramble_buf : ScrambleFits (counts_by_lenenc p.head) (counts_by_byte p.head) (scramble_buf p)
  pub db_name : PartFits HasNoZero (sends_database p.head) (db_name p)
  pub auth_plugin : PartFits PluginFits (sends_plugin p.head) (auth_plugin p)
  pub connect_attributes : PartFits AreShort (sends_attributes p.head) (connect_attributes p)
  pub zstd_level : LevelFits (sends_zstd_level p.head) (zstd_level p) rest

-- a length that its form can encode
abbrev pub ScrambleIsShort : (by_lenenc by_byte : Bool) → List ℕ → Type 0
ScrambleIsShort true by_byte scramble = length scramble < 2 ^ 64
ScrambleIsShort false true scramble = length scramble < 2 ^ 8
ScrambleIsShort false false scramble = Unit {0}

-- a level fits in a byte; if it would be sent and is missing, nothing may follow
abbrev pub LevelIsByte : (sent : Bool) → Option ℕ → (rest : List ℕ) → Type 0
LevelIsByte sent (Some level) rest = level < 2 ^ 8
LevelIsByte true None rest = rest ≡ []
LevelIsByte false None rest = Unit {0}

-- the lengths, before this rest: what remains to be shown for a response that was read
pub record ResponseIsShort (p : HandshakeResponse) (rest : List ℕ) : Type 0 where
  pub scramble_buf : ScrambleIsShort (counts_by_lenenc p.head) (counts_by_byte p.head) (scramble_buf p)
  pub connect_attributes : AreShortIn (connect_attributes p)
  pub zstd_level : LevelIsByte (sends_zstd_level p.head) (zstd_level p) rest

-- numbers within their widths, as they always are; and the parts before this rest, whose attributes have each key once
pub record HandshakeResponseFits (p : HandshakeResponse) (rest : List ℕ) : Type 0 where
  pub capabilities : (capabilities p).0 < 2 ^ 32
  pub max_packet_size : max_packet_size p < 2 ^ 32
  pub collation : collation p < 2 ^ 8
  pub mariadb_ext_capabilities : (mariadb_ext_capabilities p).0 < 2 ^ 32
  pub user : HasNoZero (user p)
  pub scramble_buf : ScrambleFits (counts_by_lenenc p.head) (counts_by_byte p.head) (scramble_buf p)
  pub db_name : PartFits HasNoZero (sends_database p.head) (db_name p)
  pub auth_plugin : PartFits PluginFits (sends_plugin p.head) (auth_plugin p)
  pub connect_attributes : PartFits AttributesFit (sends_attributes p.head) (connect_attributes p)
  pub zstd_level : LevelFits (sends_zstd_level p.head) (zstd_level p) rest
