-- The server's public key.
use Rattle.std.specs.Prelude.{◌≡◌, ℕ, List, None, refl}
use Rattle.mysql_wire.specs.Codec.{Codec, Fields}
use Rattle.mysql_wire.specs.Codecs.{◌>>=◌, give, field, packet, const_u8, string_eof}
use Rattle.mysql_auth.specs.declared.public_key_response.PublicKeyResponse.{PublicKeyResponse}

-- the bytes of the key
abbrev pub rsa_key : PublicKeyResponse → List ℕ
rsa_key p = p.rsa_key

-- the packet with this key
abbrev pub response_of : List ℕ → PublicKeyResponse
response_of key = record { header = record { 0 = record {} }; rsa_key = key }

-- 01, and the key to the end
abbrev pub public_key_response_fields : Fields (Unit {0}) PublicKeyResponse PublicKeyResponse
public_key_response_fields = do
  header ← field (λ p. p.header) (const_u8 0x01)
  key ← field rsa_key string_eof
  give (record { header = header; rsa_key = key })

unfoldable pub public_key_response : Codec (Unit {0}) PublicKeyResponse
public_key_response = packet public_key_response_fields (λ p. refl)

pub size-public_key_response : (public_key_response.form tt).size ≡ None
unfolding public_key_response
size-public_key_response = refl
