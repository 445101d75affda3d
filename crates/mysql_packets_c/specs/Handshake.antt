-- The initial handshake, in C.
use Rattle.std.specs.Option.{unwrap_or}
use Rattle.std.specs.Prelude.{◌≡◌, ℕ, List, [], ◌∷◌, length, Option, Some, None, Bool, true, false, if◌then◌else◌, not, ◌&&◌, ◌||◌, ◌==◌, nat_le}
use Rattle.mysql_auth.specs.Handshake as handshake
use Rattle.mysql_auth.specs.PluginName.{has_zero}
use Rattle.mysql_auth.specs.Handshake.{HandshakePacket}
use Rattle.mysql_packets_c.specs.Input.{used_of}
use Rattle.mysql_packets_c.specs.Output.{PutsUnlessTooLong}
use Rattle.mysql_packets_c.specs.declared.handshake.CHandshake.{CHandshake}

-- the first byte is a version of the protocol; an error in its place begins with ff
abbrev pub is_greeting : List ℕ → Bool
is_greeting [] = true
is_greeting (version ∷ bytes) = version == 10 || version == 9

-- an absent text is empty
pub record IsHandshake (packet : List ℕ) (p : HandshakePacket) (rest : List ℕ) (out : CHandshake) : Type 0 where
  pub server_version : out.server_version.now ≡ handshake.server_version p
  pub scramble_1 : out.scramble_1.now ≡ handshake.scramble_1 p
  pub scramble_2 : out.scramble_2.now ≡ unwrap_or (handshake.scramble_2 p) []
  pub auth_plugin_name : out.auth_plugin_name.now ≡ unwrap_or (handshake.auth_plugin_name p) []
  pub connection_id : out.connection_id ≡ handshake.connection_id p
  pub capabilities : out.capabilities ≡ handshake.capabilities p
  pub mariadb_capabilities : out.mariadb_capabilities ≡ (handshake.mariadb_ext_capabilities p).0
  pub status_flags : out.status_flags ≡ (handshake.status_flags p).0
  pub protocol_version : out.protocol_version ≡ handshake.protocol_version p
  pub default_collation : out.default_collation ≡ handshake.default_collation p
  pub used : out.used ≡ used_of packet rest

-- whether the second scramble is sent, and whether the plugin name is
abbrev pub sends_scramble : CHandshake → Bool
sends_scramble c = handshake.has_scramble c.capabilities

abbrev pub sends_name : CHandshake → Bool
sends_name c = handshake.has_name c.capabilities

-- the second scramble has 13 bytes, or with plugins up to 247; none if it is not sent
abbrev pub scramble_fits : (sent named : Bool) → ℕ → Bool
scramble_fits sent named len = if sent then nat_le 13 len && nat_le len (if named then 247 else 13) else len == 0

-- the name contains no zero; none if it is not sent
abbrev pub name_fits : (sent : Bool) → List ℕ → Bool
name_fits sent name = if sent then not (has_zero name) else length name == 0

-- when a handshake is read back with these fields
abbrev pub handshake_fits : CHandshake → Bool
handshake_fits c =
    not (has_zero c.server_version.now)
    && ((length c.scramble_1.now == 8)
    && (scramble_fits (sends_scramble c) (sends_name c) (length c.scramble_2.now)
    && name_fits (sends_name c) c.auth_plugin_name.now))

-- the bytes, if they are sent
abbrev pub if_sent : Bool → List ℕ → Option (List ℕ)
if_sent true bytes = Some bytes
if_sent false bytes = None

-- the handshake with these fields
pub record IsSent (c : CHandshake) (p : HandshakePacket) : Type 0 where
  pub protocol_version : handshake.protocol_version p ≡ c.protocol_version
  pub server_version : handshake.server_version p ≡ c.server_version.now
  pub connection_id : handshake.connection_id p ≡ c.connection_id
  pub scramble_1 : handshake.scramble_1 p ≡ c.scramble_1.now
  pub scramble_2 : handshake.scramble_2 p ≡ if_sent (sends_scramble c) c.scramble_2.now
  pub capabilities : handshake.capabilities p ≡ c.capabilities
  pub halves : handshake.HalvesFit p
  pub default_collation : handshake.default_collation p ≡ c.default_collation
  pub status_flags : (handshake.status_flags p).0 ≡ c.status_flags
  pub auth_plugin_name : handshake.auth_plugin_name p ≡ if_sent (sends_name c) c.auth_plugin_name.now
  pub mariadb_capabilities : (handshake.mariadb_ext_capabilities p).0 ≡ c.mariadb_capabilities

-- the handshake with these fields is written, and is read back
abbrev pub PutsHandshake : CHandshake → ℕ → (old new : List ℕ) → ℕ → Type 0
PutsHandshake c code old new written =
    (p : HandshakePacket) × IsSent c p × handshake.HandshakePartsFit p [] × PutsUnlessTooLong (handshake.handshake.bytes p) code old new written
