-- The bits of parameters and attributes, removed in order.
use Rattle.std.proofs.Common.{◌≡◌, ◌+◌, ◌*◌, ℕ, List, length, drop, get_or, sym, ap, ◌∙◌, arith}
use Rattle.std.proofs.lemmas.List.{drop-drop, get_or-drop, length-append, length-map}
use Rattle.mysql_stmt.specs.Bitmap.{bytes_for}
use Rattle.mysql_stmt.specs.ExecuteParam.{Param, contents, value_of}
use Rattle.mysql_stmt.specs.NullMarks.{first_four}
use Rattle.mysql_stmt.specs.SentNulls.{bitmap_with, contents_with}
use Rattle.mysql_stmt.proofs.PackedBits.{bitmap-long, bytes-long, packed-more}

module _ {V A : Type 0} (param : V → Param) (attribute : A → Param) where
  pub contents-long : (params : List V) (attributes : List A) → length (contents_with param attribute params attributes) ≡ length params + length attributes
  contents-long params attributes =
      omega (
        arith,
        length-append (contents param params) (contents attribute attributes),
        length-map params (λ v. value_of (param v)),
        length-map attributes (λ a. value_of (attribute a)),
      )

  pub bitmap-with-long : (params : List V) (attributes : List A) → length (bitmap_with param attribute params attributes) ≡ bytes_for 0 (length params + length attributes)
  bitmap-with-long params attributes = bitmap-long (contents_with param attribute params attributes) ∙ ap (bytes_for 0) (contents-long params attributes)

-- four bits, removed one after another
pub four-removed : (first second third fourth last : List ℕ) → second ≡ drop 1 first → third ≡ drop 1 second → fourth ≡ drop 1 third → last ≡ drop 1 fourth → last ≡ drop 4 first
four-removed first second third fourth last a b c d =
    d ∙ ap (drop 1) c ∙ ap (λ l. drop 1 (drop 1 l)) b ∙ ap (λ l. drop 1 (drop 1 (drop 1 l))) a
    ∙ ap (λ l. drop 1 (drop 1 l)) (drop-drop 1 1 first) ∙ ap (drop 1) (drop-drop 1 2 first) ∙ drop-drop 1 3 first

pub four-bits : (first second third fourth : List ℕ) → second ≡ drop 1 first → third ≡ drop 1 second → fourth ≡ drop 1 third
    → get_or first 0 0 + 2 * get_or second 0 0 + 4 * get_or third 0 0 + 8 * get_or fourth 0 0 ≡ first_four first
four-bits first second third fourth a b c =
    let two : get_or second 0 0 ≡ get_or first 1 0 = ap (λ l. get_or l 0 0) a ∙ get_or-drop 1 first 0 0 in
    let other : third ≡ drop 2 first = b ∙ ap (drop 1) a ∙ drop-drop 1 1 first in
    let three : get_or third 0 0 ≡ get_or first 2 0 = ap (λ l. get_or l 0 0) other ∙ get_or-drop 2 first 0 0 in
    let last : fourth ≡ drop 3 first = c ∙ ap (drop 1) other ∙ drop-drop 1 2 first in
    let four : get_or fourth 0 0 ≡ get_or first 3 0 = ap (λ l. get_or l 0 0) last ∙ get_or-drop 3 first 0 0 in
    omega (arith, two, three, four)

pub ruleset sent_nulls = (four-removed, four-bits, drop-drop)

pub ruleset bitmap_lengths = (bitmap-with-long, packed-more, bytes-long)
