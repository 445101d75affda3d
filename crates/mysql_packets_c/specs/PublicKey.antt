-- The server's public key, in C.
use Rattle.std.specs.Prelude.{◌≡◌, ℕ, List}
use Rattle.mysql_auth.specs.PublicKeyResponse.{rsa_key}
use Rattle.mysql_auth.specs.declared.public_key_response.PublicKeyResponse.{PublicKeyResponse}
use Rattle.mysql_packets_c.specs.declared.text.CBytes.{CBytes}

-- the key
abbrev pub IsKey : PublicKeyResponse → List ℕ → CBytes → Type 0
IsKey p rest out = out.bytes.now ≡ rsa_key p
