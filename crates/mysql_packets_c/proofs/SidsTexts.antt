-- Text written in pieces: what was written, followed by the text of the rest, is all of it.
use Rattle.std.proofs.Common.{◌≡◌, ℕ, ◌+◌, ◌≤◌, List, ◌++◌, length, sym, ap, ◌∙◌, arith}
use Rattle.std.proofs.lemmas.List.{append-nil, length-append}

pub ruleset parts = (append-nil)

module _ (all rest next more : List ℕ) (split : rest ≡ next ++ more) where
  pub step-fits : (held now : List ℕ) (capacity grown : ℕ) → now ++ rest ≡ held ++ all → length held + length all ≤ capacity → capacity ≤ grown → length now + length next ≤ grown
  step-fits held now capacity grown is fits more_now =
      let whole = sym (length-append now rest) ∙ ap length is ∙ length-append held all in
      let parts_of = ap length split ∙ length-append next more in
      omega (arith, whole, parts_of, fits, more_now)
