-- Length-encoded forms are read back.
use Rattle.std.specs.Prelude.{ℕ, ◌<◌, ◌^◌, List, [], ◌∷◌, ◌++◌, length, refl}
use Rattle.std.proofs.Common.{arith, append_assoc, inl, inr}
use Rattle.std.proofs.lemmas.Bool.{cases_lt, lt-ltb, le-ltb}
use Rattle.mysql_wire.specs.Form.{bytes, number}
use Rattle.mysql_wire.specs.Int.{raw, raw_int, byte}
use Rattle.mysql_wire.specs.LenEnc.{lenenc, lenenc_bytes, lenenc_string, lenenc_string_bytes}
use Rattle.mysql_wire.specs.Spelling.{IsSpelling, byte-again, le_u16-again, le_u24-again, le_u64-again}
use Rattle.mysql_wire.specs.Writing.{le_bytes}

one_byte : (n : ℕ) (rest : List ℕ) → n < 251 → byte.Spells (raw_int n) (n ∷ rest) rest
unfolding raw number bytes
one_byte n rest lt = (n, refl, (n ∷ [], omega arith, (refl, refl)))

pub lenenc-again : (n : ℕ) → n < 2 ^ 64 → IsSpelling lenenc n (lenenc_bytes n)
unfolding lenenc lenenc_bytes le_bytes
lenenc-again n lt rest =
    elim (cases_lt n 251) [
      | inl one ↦ rw (lt-ltb _ _ one) (raw_int n, rest, one_byte n rest one, rw (lt-ltb _ _ one) (refl, refl))
      | inr le1 ↦ elim (cases_lt n (2 ^ 16)) [
        | inl two ↦ rw (le-ltb _ _ le1, lt-ltb _ _ two) (raw_int 252, le_bytes 2 n ++ rest, byte-again 252 (omega arith) _, (raw_int n, refl, le_u16-again n two rest))
        | inr le2 ↦ elim (cases_lt n (2 ^ 24)) [
          | inl three ↦ rw (le-ltb _ _ le1, le-ltb _ _ le2, lt-ltb _ _ three) (raw_int 253, le_bytes 3 n ++ rest, byte-again 253 (omega arith) _, (raw_int n, refl, le_u24-again n three rest))
          | inr le3 ↦ rw (le-ltb _ _ le1, le-ltb _ _ le2, le-ltb _ _ le3) (raw_int 254, le_bytes 8 n ++ rest, byte-again 254 (omega arith) _, (raw_int n, refl, le_u64-again n lt rest))
        ]
      ]
    ]

pub lenenc_string-again : (content : List ℕ) → length content < 2 ^ 64 → IsSpelling lenenc_string content (lenenc_string_bytes content)
unfolding lenenc_string lenenc_string_bytes raw bytes
lenenc_string-again content lt rest =
    let n = length content in
    rw append_assoc (n, content ++ rest, (raw_int n, refl, (n, refl, lenenc-again n lt (content ++ rest))), (refl, refl))

pub ruleset lenenc_round_trips = (lenenc-again, lenenc_string-again)
