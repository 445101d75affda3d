-- A response ends in its attributes and its level of compression.
use Rattle.std.proofs.Common.{◌≡◌, ℕ, List, ◌++◌, Bool, true, false, Option, Some, append_assoc, refl}
use Rattle.std.proofs.lemmas.List.{append-nil}
use Rattle.mysql_wire.specs.declared.int.RawInt.{RawInt}
use Rattle.mysql_auth.specs.Attributes.{Attribute, attributes}
use Rattle.mysql_auth.specs.HandshakeResponse.{before_attributes, handshake_response, level_bytes, level_codec, sends_zstd_level, sent_attributes, sent_zstd_level}
use Rattle.mysql_auth.specs.declared.handshake_response.HandshakeResponse.{HandshakeResponse}

-- a level has the same bytes whether or not the flags ask for it
level-written : (sent : Bool) (level : Option (RawInt ℕ ℕ)) → (level_codec sent).bytes level ≡ level_bytes level
level-written true level = refl
level-written false level = refl

pub response-ends : (p : HandshakeResponse) (pairs : List Attribute)
    → handshake_response.bytes (record p { connect_attributes = Some pairs }) ≡ before_attributes p ++ (attributes.bytes pairs ++ level_bytes p.zstd_level)
unfolding handshake_response sent_attributes sent_zstd_level
response-ends p pairs = simp (append-nil, append_assoc, level-written (sends_zstd_level p.head))
