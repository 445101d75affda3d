-- The request for TLS.
use Rattle.std.specs.Prelude.{◌≡◌, ℕ, ◌<◌, ◌^◌, Some, refl}
use Rattle.std.specs.Int.RustNames.{bit_or}
use Rattle.mysql_wire.specs.Form.{size-block}
use Rattle.mysql_wire.specs.Codec.{Codec, Fields}
use Rattle.mysql_wire.specs.Codecs.{◌>>=◌, give, field, block, packet, u8, u32, flags, skip}
use Rattle.mysql_wire.specs.Flags.{CapabilityFlags, MariadbCapabilities}
use Rattle.mysql_wire.specs.Int.{raw_int}
use Rattle.mysql_auth.specs.declared.ssl_request.SslRequest.{SslRequest}
use Rattle.mysql_wire.specs.FlagMasks.{CLIENT_SSL}

abbrev pub capabilities : SslRequest → CapabilityFlags
capabilities p = p.capabilities.0

abbrev pub max_packet_size : SslRequest → ℕ
max_packet_size p = p.max_packet_size.0

abbrev pub character_set : SslRequest → ℕ
character_set p = p.character_set.0

abbrev pub mariadb_capabilities : SslRequest → MariadbCapabilities
mariadb_capabilities p = p.mariadb_capabilities.0

-- the request with these fields
abbrev pub request_of : CapabilityFlags → ℕ → ℕ → MariadbCapabilities → SslRequest
request_of capabilities max_packet_size character_set mariadb = record {
  capabilities = record { 0 = capabilities; 1 = record {} };
  max_packet_size = raw_int max_packet_size;
  character_set = raw_int character_set;
  skipped = record {};
  mariadb_capabilities = record { 0 = mariadb; 1 = record {} };
}

abbrev pub with_mariadb : MariadbCapabilities → SslRequest → SslRequest
with_mariadb mariadb p = request_of (capabilities p) (max_packet_size p) (character_set p) mariadb

abbrev pub with_character_set : ℕ → SslRequest → SslRequest
with_character_set number p = request_of (capabilities p) (max_packet_size p) number (mariadb_capabilities p)

abbrev pub with_capabilities : CapabilityFlags → SslRequest → SslRequest
with_capabilities capabilities p = request_of capabilities (max_packet_size p) (character_set p) (mariadb_capabilities p)

-- CLIENT_SSL, by which a server recognizes a request for TLS
abbrev pub with_client_ssl : ℕ → ℕ
with_client_ssl bits = bit_or bits CLIENT_SSL

-- the same request with that flag
abbrev pub for_tls : SslRequest → SslRequest
for_tls p = with_capabilities (record { 0 = with_client_ssl (capabilities p).0; 1 = record {} }) p

abbrev pub ssl_request_fields : Fields (Unit {0}) SslRequest SslRequest
ssl_request_fields = do
  capabilities ← field (λ p. p.capabilities) (flags 4)
  max_packet_size ← field (λ p. p.max_packet_size) u32
  character_set ← field (λ p. p.character_set) u8
  skipped ← field (λ p. p.skipped) (skip 19)
  mariadb_capabilities ← field (λ p. p.mariadb_capabilities) (flags 4)
  give (
      record {
        capabilities = capabilities;
        max_packet_size = max_packet_size;
        character_set = character_set;
        skipped = skipped;
        mariadb_capabilities = mariadb_capabilities;
      }
      )

-- 32 bytes
unfoldable pub ssl_request : Codec (Unit {0}) SslRequest
ssl_request = packet (block 32 ssl_request_fields (λ p. refl)) (λ p. refl)

pub size-ssl_request : (ssl_request.form tt).size ≡ Some 32
unfolding ssl_request
size-ssl_request = size-block 32 (ssl_request_fields.form tt)

-- a request is read back if its numbers are within their widths, as they always are
pub record SslRequestFits (p : SslRequest) : Type 0 where
  pub capabilities : (capabilities p).0 < 2 ^ 32
  pub max_packet_size : max_packet_size p < 2 ^ 32
  pub character_set : character_set p < 2 ^ 8
  pub mariadb_capabilities : (mariadb_capabilities p).0 < 2 ^ 32
