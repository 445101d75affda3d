-- NULL, and values of which none is NULL.
use Rattle.std.proofs.Common.{◌≡◌, ◌≢◌, ◌<◌, ◌+◌, ◌||◌, ℕ, zero, suc, Bool, true, false, if◌then◌else◌, List, [], ◌∷◌, length, map, get_or, take, refl, ap, ◌∙◌, arith}
use Rattle.std.proofs.lemmas.List.Folds.{list_any_more}
use Rattle.std.specs.List.{list_any}
use Rattle.mysql_stmt.specs.NullMarks.{is_null, null_bit}
use Rattle.mysql_values.specs.Value.{Content, NULL, Bytes, Int, UInt, Float, Double, Date, Time}
use Rattle.mysql_wire.specs.Writing.{saturated}

pub is-null : (c : Content) → is_null c ≡ true → c ≡ NULL
is-null NULL h = refl
is-null (Bytes bytes) h = absurd cc
is-null (Int n) h = absurd cc
is-null (UInt n) h = absurd cc
is-null (Float bits) h = absurd cc
is-null (Double bits) h = absurd cc
is-null (Date date) h = absurd cc
is-null (Time time) h = absurd cc

or-parts : (a b : Bool) → (a || b) ≡ false → (a ≡ false) × (b ≡ false)
or-parts true b h = absurd cc
or-parts false b h = (refl, h)

module _ {X : Type 0} (content : X → Content) where
  -- then no bit of their bitmap is set
  pub bits-clear : (xs : List X) → list_any (λ x. is_null (content x)) xs ≡ false → (i : ℕ) → get_or (map null_bit (map content xs)) i 0 ≡ 0
  bits-clear [] h i = omega arith
  bits-clear (x ∷ xs) h zero = ap (λ (b : Bool). if b then 1 else 0) (or-parts (is_null (content x)) (list_any (λ x. is_null (content x)) xs) h).0
  bits-clear (x ∷ xs) h (suc i) = bits-clear xs (or-parts (is_null (content x)) (list_any (λ x. is_null (content x)) xs) h).1 i

  -- where NULL takes no bytes, what takes some is not NULL
  module _ (bytes : X → List ℕ) (nothing : (x : X) → is_null (content x) ≡ true → bytes x ≡ []) where
    not-null : (x : X) (n : ℕ) → n ≡ saturated (length (bytes x)) → n ≢ 0 → is_null (content x) ≡ false
    unfolding saturated
    not-null x n is some = pick (is_null (content x)) refl
      where
        pick : (b : Bool) → is_null (content x) ≡ b → is_null (content x) ≡ false
        pick false e = e
        pick true e = absurd (some (let none = ap length (nothing x e) in omega (arith, is, none)))

    -- one more value that takes bytes
    pub nulls-more : (xs : List X) (i : ℕ) (x : X) (n : ℕ) → i < length xs → list_any (λ x. is_null (content x)) (take i xs) ≡ false
        → n ≡ saturated (length (bytes (get_or xs i x))) → n ≢ 0 → list_any (λ x. is_null (content x)) (take (i + 1) xs) ≡ false
    nulls-more xs i x n lt before is some =
        list_any_more (λ x. is_null (content x)) xs i x lt ∙ ap (λ (b : Bool). b || is_null (content (get_or xs i x))) before ∙ not-null (get_or xs i x) n is some
