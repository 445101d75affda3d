-- Length-encoded integers and strings.
use Rattle.std.specs.Prelude.{◌≡◌, ◌^◌, ◌++◌, [], ◌∷◌, length, if◌then◌else◌, ℕ, List, None, nat_lt, ◌==◌, refl}
use Rattle.mysql_wire.specs.declared.lenenc.LenEnc.{LenEnc}
use Rattle.mysql_wire.specs.Writing.{le_bytes}
use Rattle.mysql_wire.specs.Form.{Form, ◌>>=◌, give, refuse, either, bytes}
use Rattle.mysql_wire.specs.Int.{raw, byte, le_u16, le_u24, le_u64, number_of}

-- what follows the first byte
abbrev pub lenenc_from : ℕ → Form ℕ
lenenc_from first =
    either (nat_lt first 251) (give first)
    (either (first == 252) (number_of le_u16)
    (either (first == 253) (number_of le_u24)
    (either (first == 254) (number_of le_u64) refuse)))

-- a byte up to 250; or 252, 253 or 254 and a number of 2, 3 or 8 bytes
unfoldable pub lenenc : Form ℕ
lenenc = do
  first ← byte
  lenenc_from first.0

pub size-lenenc : lenenc.size ≡ None
unfolding lenenc
size-lenenc = refl

-- the length, and that many bytes
unfoldable pub lenenc_string : Form (List ℕ)
lenenc_string = do
  n ← number_of (raw {R = LenEnc} lenenc)
  bytes n

pub size-lenenc_string : lenenc_string.size ≡ None
unfolding lenenc_string
size-lenenc_string = refl

-- the shortest encoding of a number
unfoldable pub lenenc_bytes : ℕ → List ℕ
lenenc_bytes n =
    if nat_lt n 251 then n ∷ []
    else if nat_lt n (2 ^ 16) then 252 ∷ le_bytes 2 n
    else if nat_lt n (2 ^ 24) then 253 ∷ le_bytes 3 n
    else 254 ∷ le_bytes 8 n

-- the shortest encoding of a content
unfoldable pub lenenc_string_bytes : List ℕ → List ℕ
lenenc_string_bytes content = lenenc_bytes (length content) ++ content
