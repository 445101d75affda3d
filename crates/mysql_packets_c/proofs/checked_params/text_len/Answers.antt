use Rattle.std.proofs.Common.{◌≡◌, ◌≢◌, ◌++◌, ◌∷◌, [], ◌^◌, ℕ, Bool, true, false, List, length, if◌then◌else◌, nat_lt, arith}
use Rattle.mysql_wire.specs.LenEnc.{lenenc_bytes, lenenc_string_bytes}
use Rattle.mysql_wire.specs.Writing.{le_bytes, saturated}
use Rattle.mysql_packets_c.proofs.checked_params.text_len.Goals as goal

-- a length takes a byte at least
first-byte : (a b c : Bool) (n : ℕ) (rest : List ℕ) → length ((if a then n ∷ [] else if b then 252 ∷ le_bytes 2 n else if c then 253 ∷ le_bytes 3 n else 254 ∷ le_bytes 8 n) ++ rest) ≢ 0
first-byte true b c n rest none = omega (arith, none)
first-byte false true c n rest none = omega (arith, none)
first-byte false false true n rest none = omega (arith, none)
first-byte false false false n rest none = omega (arith, none)

some-byte : (content : List ℕ) → length (lenenc_string_bytes content) ≢ 0
unfolding lenenc_bytes lenenc_string_bytes
some-byte content = first-byte (nat_lt (length content) 251) (nat_lt (length content) (2 ^ 16)) (nat_lt (length content) (2 ^ 24)) (length content) content

some-length : (content : List ℕ) (n : ℕ) → n ≡ saturated (length (lenenc_string_bytes content)) → n ≢ 0
unfolding saturated
some-length content n is none = some-byte content (omega (arith, is, none))

pub returns-clause-some : goal.returns-clause-some
returns-clause-some c = some-length c.args.value.now.bytes.now _ c.written_len.ensures
