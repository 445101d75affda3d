-- A content after its length.
use Rattle.std.proofs.Common.{◌≡◌, ℕ, ◌+◌, ◌-◌, ◌<◌, ◌≤◌, ◌^◌, List, [], ◌++◌, length, min, replicate, refl, inl, inr, arith}
use Rattle.std.proofs.lemmas.Bool.{cases_lt}
use Rattle.std.proofs.lemmas.List.{length-append}
use Rattle.mysql_wire.specs.LenEnc.{lenenc_bytes, lenenc_string_bytes}
use Rattle.mysql_wire.specs.CodecAgain.{some-lenenc}
use Rattle.mysql_wire.specs.Writing.{saturated}
use Rattle.mysql_auth.specs.Attributes.{pairs_bytes}

pub string-length : (content : List ℕ) → length (lenenc_string_bytes content) ≡ length (lenenc_bytes (length content)) + length content
unfolding lenenc_string_bytes
string-length content = length-append (lenenc_bytes (length content)) content

-- a length within the limit is not truncated
pub whole-count : (content : List ℕ) (len limit : ℕ) → len + length (lenenc_string_bytes content) ≤ limit → limit < 2 ^ 64 → saturated (length content) ≡ length content
unfolding saturated lenenc_string_bytes
whole-count content len limit capacity small =
    let long : length (lenenc_bytes (length content) ++ content) ≡ length (lenenc_bytes (length content)) + length content = length-append (lenenc_bytes (length content)) content in
    omega (arith, long, capacity, small, some-lenenc content)

-- a truncated length exceeds the address space, whatever precedes it
pub counted-length : (content : List ℕ) → min (length (lenenc_bytes (saturated (length content))) + saturated (length content)) (2 ^ 64 - 1) ≡ saturated (length (lenenc_string_bytes content))
unfolding saturated lenenc_string_bytes
counted-length content =
    elim (cases_lt (length content) (2 ^ 64 - 1)) [
      | inl whole ↦
          let same : min (length content) (2 ^ 64 - 1) ≡ length content = omega (arith, whole) in
          rw (same, length-append (lenenc_bytes (length content)) content) refl
      | inr long ↦
          let cut : min (length content) (2 ^ 64 - 1) ≡ 2 ^ 64 - 1 = omega (arith, long) in
          rw (cut, length-append (lenenc_bytes (length content)) content) (omega (arith, long))
    ]

-- an empty list is the byte 0
pub empty-list : lenenc_string_bytes (pairs_bytes []) ≡ replicate 1 0
unfolding lenenc_string_bytes lenenc_bytes
empty-list = refl

pub ruleset counted_lengths = (counted-length)

pub ruleset empty_lists = (empty-list)
