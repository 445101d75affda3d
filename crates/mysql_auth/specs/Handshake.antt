-- The initial handshake.
use Rattle.std.specs.Prelude.{◌≡◌, ℕ, ◌+◌, ◌-◌, ◌*◌, ◌<◌, ◌≤◌, ◌^◌, List, [], ◌++◌, length, take, replicate, Option, option_map, Some, None, Bool, true, false, if◌then◌else◌, min, max, refl}
use Rattle.std.specs.Option.{unwrap_or}
use Rattle.mysql_wire.specs.Codec.{Codec, Fields}
use Rattle.mysql_wire.specs.Codecs.{◌>>=◌, give, field, block, packet, when, u8, u16, u32, flags, skip, byte_array, string_bare, string_null}
use Rattle.mysql_wire.specs.FlagMasks.{CLIENT_SECURE_CONNECTION, CLIENT_PLUGIN_AUTH}
use Rattle.mysql_wire.specs.Flags.{StatusFlags, MariadbCapabilities, has}
use Rattle.mysql_wire.specs.Int.{raw_int}
use Rattle.mysql_wire.specs.Null.{HasNoZero}
use Rattle.mysql_wire.specs.declared.int.RawInt.{RawInt}
use Rattle.mysql_auth.specs.AuthPlugin.{plugin_of}
use Rattle.mysql_auth.specs.declared.auth_plugin.AuthPlugin.{AuthPlugin}
use Rattle.mysql_auth.specs.EofName.{eof_name, without_last_zero}
use Rattle.mysql_auth.specs.declared.handshake_head.HandshakeHead.{HandshakeHead}
use Rattle.mysql_auth.specs.declared.handshake.HandshakePacketOf.{HandshakePacketOf}

-- the owned and the borrowed form in a clause
abbrev pub HandshakePacket : Type 0
HandshakePacket = HandshakePacketOf (List ℕ) (List ℕ) (List ℕ) (List ℕ)

-- the head of both
abbrev pub Head : Type 0
Head = HandshakeHead (List ℕ) (List ℕ)

-- ---- values

abbrev pub halves : ℕ → ℕ → ℕ
halves low high = low + high * 0x10000

abbrev pub capabilities_of : {V S : Type 0} → HandshakeHead V S → ℕ
capabilities_of head = halves head.capabilities_low.0 head.capabilities_high.0

abbrev pub capabilities : {V S T N : Type 0} → HandshakePacketOf V S T N → ℕ
capabilities p = capabilities_of p.head

-- each half of the flags has two bytes
abbrev pub HalvesFitIn : {V S : Type 0} → HandshakeHead V S → Type 0
HalvesFitIn head = (head.capabilities_low.0 < 2 ^ 16) × (head.capabilities_high.0 < 2 ^ 16)

abbrev pub HalvesFit : {V S T N : Type 0} → HandshakePacketOf V S T N → Type 0
HalvesFit p = HalvesFitIn p.head

abbrev pub protocol_version : {V S T N : Type 0} → HandshakePacketOf V S T N → ℕ
protocol_version p = p.head.protocol_version.0

abbrev pub server_version : HandshakePacket → List ℕ
server_version p = p.head.server_version

-- the server version and the optional texts are all empty
abbrev pub HasNoTexts : HandshakePacket → Type 0
HasNoTexts p = (server_version p ≡ []) × (unwrap_or p.scramble_2 [] ≡ []) × (unwrap_or p.auth_plugin_name [] ≡ [])

abbrev pub connection_id : {V S T N : Type 0} → HandshakePacketOf V S T N → ℕ
connection_id p = p.head.connection_id.0

abbrev pub scramble_1 : HandshakePacket → List ℕ
scramble_1 p = p.head.scramble_1

abbrev pub default_collation : {V S T N : Type 0} → HandshakePacketOf V S T N → ℕ
default_collation p = p.head.default_collation.0

abbrev pub status_flags : {V S T N : Type 0} → HandshakePacketOf V S T N → StatusFlags
status_flags p = p.head.status_flags.0

abbrev pub mariadb_ext_capabilities : {V S T N : Type 0} → HandshakePacketOf V S T N → MariadbCapabilities
mariadb_ext_capabilities p = p.head.mariadb_capabilities.0

-- the handshake with these MariaDB capabilities
abbrev pub with_mariadb : MariadbCapabilities → HandshakePacket → HandshakePacket
with_mariadb capabilities p = record p {
  head = record p.head { mariadb_capabilities = record { 0 = capabilities; 1 = record {} } };
}

abbrev pub scramble_2 : HandshakePacket → Option (List ℕ)
scramble_2 p = p.scramble_2

abbrev pub auth_plugin_name : HandshakePacket → Option (List ℕ)
auth_plugin_name p = p.auth_plugin_name

-- the plugin with the name; one zero at its end is ignored
abbrev pub auth_plugin : HandshakePacket → Option AuthPlugin
auth_plugin p = option_map (λ name. plugin_of (without_last_zero name)) (auth_plugin_name p)

-- the bytes, truncated or padded with zeros to this length
abbrev pub resized : ℕ → List ℕ → List ℕ
resized n bytes = take n bytes ++ replicate (n - length bytes) 0

-- both scrambles, in 20 bytes
abbrev pub nonce : HandshakePacket → List ℕ
nonce p = resized 20 (scramble_1 p ++ unwrap_or (scramble_2 p) [])

-- whether scramble 2 is sent, and whether the plugin name is
abbrev pub has_scramble : ℕ → Bool
has_scramble capabilities = has capabilities CLIENT_SECURE_CONNECTION

abbrev pub has_name : ℕ → Bool
has_name capabilities = has capabilities CLIENT_PLUGIN_AUTH

-- eight, and the bytes of scramble 2 that are written; 0 without it, and without plugins
abbrev pub length_of : Option (List ℕ) → ℕ
length_of None = 0
length_of (Some scramble) = 8 + min (length scramble) 247

unfoldable pub data_length : HandshakePacket → ℕ
data_length p = if has_name (capabilities p) then length_of (scramble_2 p) else 0

-- the bytes of scramble 2 that are read, by the length of both
abbrev pub scramble_length : ℕ → ℕ
scramble_length data_length = max 13 (data_length - 8)

-- ---- layout

-- the 31 bytes, with what neighbouring fields need: the head, and the length of both scrambles
unfoldable pub handshake_block : RawInt ℕ ℕ → List ℕ → Fields (Unit {0}) HandshakePacket (Head × ℕ)
handshake_block protocol_version server_version = do
  connection_id ← field (λ p. p.head.connection_id) u32
  scramble_1 ← field (λ p. p.head.scramble_1) (byte_array 8)
  filler ← field (λ p. p.head.filler) (skip 1)
  capabilities_low ← field (λ p. p.head.capabilities_low) u16
  default_collation ← field (λ p. p.head.default_collation) u8
  status_flags ← field (λ p. p.head.status_flags) (flags 2)
  capabilities_high ← field (λ p. p.head.capabilities_high) u16
  data_length ← field (λ p. raw_int (data_length p)) u8
  reserved ← field (λ p. p.head.reserved) (skip 6)
  mariadb_capabilities ← field (λ p. p.head.mariadb_capabilities) (flags 4)
  give (
    record {
      protocol_version = protocol_version;
      server_version = server_version;
      connection_id = connection_id;
      scramble_1 = scramble_1;
      filler = filler;
      capabilities_low = capabilities_low;
      default_collation = default_collation;
      status_flags = status_flags;
      capabilities_high = capabilities_high;
      reserved = reserved;
      mariadb_capabilities = mariadb_capabilities;
    },
    data_length.0,
  )

-- the versions, and 31 bytes
unfoldable pub handshake_head : Fields (Unit {0}) HandshakePacket (Head × ℕ)
unfolding handshake_block
handshake_head = do
  protocol_version ← field (λ p. p.head.protocol_version) u8
  server_version ← field (λ p. p.head.server_version) string_null
  fixed ← block 31 (handshake_block protocol_version server_version) (λ p. refl)
  give fixed

-- The head; scramble 2 of at least 13 bytes under CLIENT_SECURE_CONNECTION; under CLIENT_PLUGIN_AUTH the name, to the end.
abbrev pub handshake_fields : Fields (Unit {0}) HandshakePacket HandshakePacket
handshake_fields = do
  head ← handshake_head
  scramble_2 ← field scramble_2 (when (λ c. has_scramble (capabilities_of head.0)) (string_bare 247 (scramble_length head.1)))
  auth_plugin_name ← field auth_plugin_name (when (λ c. has_name (capabilities_of head.0)) eof_name)
  give (record { head = head.0; scramble_2 = scramble_2; auth_plugin_name = auth_plugin_name })

unfoldable pub handshake : Codec (Unit {0}) HandshakePacket
unfolding handshake_head handshake_block
handshake = packet handshake_fields (λ p. refl)

pub size-handshake : (handshake.form tt).size ≡ None
unfolding handshake
size-handshake = refl

-- ---- when a handshake is read back, in plain words

-- scramble 2 is present if it is sent: 13 to 247 bytes, and 13 without plugins
abbrev pub ScrambleFits : Bool → Bool → Option (List ℕ) → Type 0
ScrambleFits sent named None = sent ≡ false
ScrambleFits sent true (Some scramble) = (sent ≡ true) × (13 ≤ length scramble) × (length scramble ≤ 247)
ScrambleFits sent false (Some scramble) = (sent ≡ true) × (length scramble ≡ 13)

-- a name is present if it is sent, contains no zero, and nothing follows
abbrev pub NameFits : Bool → Option (List ℕ) → List ℕ → Type 0
NameFits sent None rest = sent ≡ false
NameFits sent (Some name) rest = (sent ≡ true) × HasNoZero name × (rest ≡ [])

-- no zero in the version, and the two above: what remains to be shown for a given handshake
pub record HandshakePartsFit (p : HandshakePacket) (rest : List ℕ) : Type 0 where
  pub server_version : HasNoZero (server_version p)
  pub scramble_2 : ScrambleFits (has_scramble (capabilities p)) (has_name (capabilities p)) (scramble_2 p)
  pub auth_plugin_name : NameFits (has_name (capabilities p)) (auth_plugin_name p) rest

-- numbers and arrays within their widths, as they always are; and these parts
pub record HandshakeFits (p : HandshakePacket) (rest : List ℕ) : Type 0 where
  pub protocol_version : protocol_version p < 2 ^ 8
  pub server_version : HasNoZero (server_version p)
  pub connection_id : connection_id p < 2 ^ 32
  pub scramble_1 : length (scramble_1 p) ≡ 8
  pub capabilities_low : p.head.capabilities_low.0 < 2 ^ 16
  pub default_collation : default_collation p < 2 ^ 8
  pub status_flags : (status_flags p).0 < 2 ^ 16
  pub capabilities_high : p.head.capabilities_high.0 < 2 ^ 16
  pub mariadb_ext_capabilities : (mariadb_ext_capabilities p).0 < 2 ^ 32
  pub scramble_2 : ScrambleFits (has_scramble (capabilities p)) (has_name (capabilities p)) (scramble_2 p)
  pub auth_plugin_name : NameFits (has_name (capabilities p)) (auth_plugin_name p) rest
