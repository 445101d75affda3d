-- Bytes that were read off the front.
use Rattle.std.proofs.Common.{◌≡◌, ℕ, ◌+◌, ◌≤◌, List, ◌++◌, length, take, ap, sym, ◌∙◌, arith, length-append}
use Rattle.std.proofs.Math.Seq.{take-append_seam}
use Rattle.mysql_wire.specs.Reading.{IsTail}

module _ (tail bytes : List ℕ) (is : IsTail tail bytes) where
  long : length bytes ≡ length is.front + length tail
  long = ap length is.parts ∙ length-append is.front tail

  pub tail-fits : length tail ≤ length bytes
  tail-fits = omega (arith, long)

  -- a given number of bytes, and then the tail
  pub front-of : (n : ℕ) → n + length tail ≡ length bytes → bytes ≡ take n bytes ++ tail
  front-of n count =
      let same : n ≡ length is.front = omega (arith, count, long) in
      let taken : take n bytes ≡ is.front = ap (λ (k : ℕ). take k bytes) same ∙ ap (λ (l : List ℕ). take (length is.front) l) is.parts ∙ take-append_seam is.front tail in
      is.parts ∙ ap (λ (l : List ℕ). l ++ tail) (sym taken)
