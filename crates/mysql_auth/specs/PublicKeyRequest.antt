-- The request for the server's public key.
use Rattle.std.specs.Prelude.{◌≡◌, None, refl}
use Rattle.mysql_wire.specs.Codec.{Codec, Fields}
use Rattle.mysql_wire.specs.Codecs.{◌>>=◌, give, field, packet, const_u8}
use Rattle.mysql_auth.specs.declared.public_key_request.PublicKeyRequest.{PublicKeyRequest}

abbrev pub the_request : PublicKeyRequest
the_request = record { header = record { 0 = record {} } }

-- 02
abbrev pub public_key_request_fields : Fields (Unit {0}) PublicKeyRequest PublicKeyRequest
public_key_request_fields = do
  header ← field (λ p. p.header) (const_u8 0x02)
  give (record { header = header })

unfoldable pub public_key_request : Codec (Unit {0}) PublicKeyRequest
public_key_request = packet public_key_request_fields (λ p. refl)

pub size-public_key_request : (public_key_request.form tt).size ≡ None
unfolding public_key_request
size-public_key_request = refl
