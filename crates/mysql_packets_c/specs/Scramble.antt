-- The responses of authentication plugins to a nonce.
use Rattle.std.specs.Prelude.{ℕ, List, [], ◌∷◌, ◌++◌}
use Rattle.std.specs.Int.Bits.{bit_xor}
use Rattle.sha1.specs.Sha1.{sha1}
use Rattle.sha2.specs.Sha256.{sha256}

-- each pair of bytes as one
abbrev pub mixed : List ℕ → List ℕ → List ℕ
mixed [] ys = []
mixed (x ∷ xs) [] = []
mixed (x ∷ xs) (y ∷ ys) = bit_xor x y ∷ mixed xs ys

-- SHA1(password) xor SHA1(nonce, SHA1(SHA1(password))); empty for an empty password
abbrev pub native_answer : List ℕ → List ℕ → List ℕ
native_answer [] nonce = []
native_answer (b ∷ password) nonce = mixed (sha1 (b ∷ password)) (sha1 (nonce ++ sha1 (sha1 (b ∷ password))))

-- SHA256(password) xor SHA256(SHA256(SHA256(password)), nonce); empty for an empty password
abbrev pub sha2_answer : List ℕ → List ℕ → List ℕ
sha2_answer [] nonce = []
sha2_answer (b ∷ password) nonce = mixed (sha256 (b ∷ password)) (sha256 (sha256 (sha256 (b ∷ password)) ++ nonce))
